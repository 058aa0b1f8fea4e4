use Rattle.std.proofs.Common.{get_or, refl, rules}
use Rattle.est_ast.specs.Lexemes.{IsSpace}
use Rattle.est_ast.proofs.Exports.{space_front, mark_front, IsOther, bad_front}
use Rattle.est_lex.proofs.front.front.Goals as goal

pub returns-then-is_space-clause-ok : goal.returns-then-is_space-clause-ok
returns-then-is_space-clause-ok c =
    let space : IsSpace (get_or c.args.text.now 0 0) = search rules in
    space_front _ c.requires space

pub returns-in-Some-clause-ok : goal.returns-in-Some-clause-ok
returns-in-Some-clause-ok c =
    mark_front _ _ (record { mark = c.in-Some.mark; length_is = c.mark_len.ensures; written = rw c.mark_len.ensures (c.in-Some.ensures) })

pub returns-in-None-clause-err : goal.returns-in-None-clause-err
returns-in-None-clause-err c =
    let other : IsOther (get_or c.args.text.now 0 0) =
    record { no_space = search rules; no_percent = c.if-first-eq37.false; no_letter = search rules; no_digit = search rules } in
    (bad_front _ c.requires other (λ n begins. c.in-None.ensures begins.mark (rw (← begins.length_is) begins.written)), refl)
