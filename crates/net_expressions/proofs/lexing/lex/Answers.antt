use Rattle.std.proofs.Common.{◌+◌, ◌-◌, length, ◌∷◌, ◌++◌, [], map, drop, sym, ap, ◌∙◌, arith}
use Rattle.std.proofs.lemmas.List.{map-append, append_assoc, length-drop, take_all}
use Rattle.net_expressions.specs.Lexemes.{tokens_behind}
use Rattle.net_expressions.specs.Plain.{token_by, front_at}
use Rattle.net_expressions.proofs.LexLaws.{behind-gap, behind-lexeme}
use Rattle.net_expressions.proofs.lexing.lex.Goals as goal

pub fronts-preserved-in-Gap : goal.fronts-preserved-in-Gap
fronts-preserved-in-Gap g c =
    let k = g.K.Lexical in
    let n = length-drop c.fronts.at c.args.text.now in
    let slice = take_all (length c.args.text.now - c.fronts.at) (drop c.fronts.at c.args.text.now) (omega (arith, n)) in
    let wide = ap length slice in
    let inside = c.in-Gap.ensures.within in
    record {
      within = omega (arith, n, inside, wide);
      same = c.fronts.invariant.same ∙ ap (λ l. map (token_by k.plain) c.fronts.tokens.items ++ l)
          (behind-gap k.bad k.front c.args.text.now c.fronts.at c.in-Gap.more (omega arith) (sym (ap (front_at k.front) slice) ∙ sym c.in-Gap.ensures.is));
    }

pub fronts-preserved : goal.fronts-preserved
fronts-preserved g c =
    let k = g.K.Lexical in
    let n = length-drop c.fronts.at c.args.text.now in
    let slice = take_all (length c.args.text.now - c.fronts.at) (drop c.fronts.at c.args.text.now) (omega (arith, n)) in
    let wide = ap length slice in
    let inside = c.in-Lexeme.ensures.within in
    let rest = tokens_behind k.bad k.front 0 (c.fronts.at + (1 + c.in-Lexeme.more)) (drop (c.fronts.at + (1 + c.in-Lexeme.more)) c.args.text.now) in
    record {
      within = omega (arith, n, inside, wide);
      same = rw (c.in_ok-push-in-Lexeme.ensures.items, map-append)
          (c.fronts.invariant.same ∙ ap (λ l. map (token_by k.plain) c.fronts.tokens.items ++ l)
          (behind-lexeme k.bad k.front c.args.text.now c.fronts.at c.in-Lexeme.more (k.plain c.in-Lexeme.kind) (omega arith)
          (sym (ap (front_at k.front) slice) ∙ sym c.in-Lexeme.ensures.is))
          ∙ sym (append_assoc (map (token_by k.plain) c.fronts.tokens.items) (record { kind = k.plain c.in-Lexeme.kind; at = c.fronts.at } ∷ []) rest));
    }
