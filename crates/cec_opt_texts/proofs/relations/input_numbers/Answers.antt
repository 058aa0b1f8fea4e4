use Rattle.std.proofs.Common.{◌≡◌, ℕ, ◌+◌, List, [], ◌∷◌, Bor, drop, drop-cons, get_or, map, suc, sym, ap, ◌∙◌, arith}
use Rattle.std.proofs.lemmas.List.{map-append}
use Rattle.base_types.specs.declared.indices.SigId.{SigId}
use Rattle.cec_opt_texts.specs.Related.{input_number, results_of}
use Rattle.cec_opt_texts.proofs.Named.{after_these, next-value}
use Rattle.cec_opt_texts.proofs.relations.input_numbers.Goals as goal

pub loop-name-preserved : goal.loop-name-preserved
loop-name-preserved c =
    let names = c.args.names.now in
    let i = c.loop-name.name-index in
    let none : Bor (List ℕ) = record { ref_ptr = (0, 0); now = [] } in
    let name = get_or names i none in
    let f = input_number c.args.inputs.now in
    let done = map (λ (s : SigId). s.0) c.loop-name.found.items in
    let rest = map (λ (n : Bor (List ℕ)). n.now) (drop (i + 1) names) in
    let more : suc i ≡ i + 1 = omega arith in
    let are : map (λ (n : Bor (List ℕ)). n.now) (drop i names) ≡ name.now ∷ rest = ap (map (λ (n : Bor (List ℕ)). n.now))
    (drop-cons names i none (omega arith) ∙ ap (λ n. name ∷ drop n names) more) in
    rw (c.in_ok-push-in-Ok.ensures.items, map-append)
    (next-value f done name.now c.in-Ok.number.0 rest c.in-Ok.ensures.found ∙ ap (λ l. after_these done (results_of f l)) (sym are) ∙ c.loop-name.invariant)
