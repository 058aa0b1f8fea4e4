use Rattle.std.proofs.Common.{◌≡◌, ◌-◌, true, false, not, length, map, sym, ap, ◌∙◌}
use Rattle.std.specs.Prelude.{slice_get}
use Rattle.std.specs.Option.{option_copied, option_map}
use Rattle.blif_text.specs.Statements.{may_follow, is_refused}
use Rattle.blif_read.specs.PlainStatements.{plain_statement, last_of}
use Rattle.blif_read.proofs.TakenLines.{last_of-last}
use Rattle.blif_read.proofs.reader.put.Goals as goal

pub returns-then-not-may_follow-clause-taken : goal.returns-then-not-may_follow-clause-taken
returns-then-not-may_follow-clause-taken c =
    let next = plain_statement c.in-Some.next in
    let last = last_of-last plain_statement c.args.statements.now.items (option_copied c.last.result)
    (c.last.ensures.value ∙ ap (λ l. slice_get l (length l - 1)) c.deref.ensures.value) in
    let follows : may_follow (last_of (map plain_statement c.args.statements.now.items)) next ≡ false = ap (λ o. may_follow o next) (sym last)
    ∙ sym c.may_follow.ensures ∙ c.if-not-may_follow.true in
    ap (λ b. not (not b)) (sym follows)
    ∙ ap (λ o. not (is_refused (last_of (map plain_statement c.args.statements.now.items)) (option_map plain_statement o))) (sym c.in-Some.is)

pub returns-clause-taken : goal.returns-clause-taken
returns-clause-taken c =
    let next = plain_statement c.in-Some.next in
    let last = last_of-last plain_statement c.args.statements.now.items (option_copied c.last.result)
    (c.last.ensures.value ∙ ap (λ l. slice_get l (length l - 1)) c.deref.ensures.value) in
    let follows : may_follow (last_of (map plain_statement c.args.statements.now.items)) next ≡ true = ap (λ o. may_follow o next) (sym last)
    ∙ sym c.may_follow.ensures ∙ c.if-not-may_follow.false in
    ap (λ b. not (not b)) (sym follows)
    ∙ ap (λ o. not (is_refused (last_of (map plain_statement c.args.statements.now.items)) (option_map plain_statement o))) (sym c.in-Some.is)
