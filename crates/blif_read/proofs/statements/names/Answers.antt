use Rattle.std.proofs.Common.{◌≢◌, ℕ, ◌-◌, ◌≤◌, List, [], ◌∷◌, ◌++◌, length, get_or, take, sym, ap, ◌∙◌, arith, Bor}
use Rattle.std.proofs.lemmas.Bool.{eqb-false}
use Rattle.std.proofs.lemmas.List.{length-map, length-take}
use Rattle.blif_text.specs.Statements.{names_of}
use Rattle.blif_text.proofs.Exports.{names_of-last, map-last}
use Rattle.blif_read.proofs.statements.names.Goals as goal

pub returns : goal.returns
returns c =
    let ws = c.args.words.now in
    let bytes = λ (w : Bor (List ℕ)). w.now in
    let some : length ws ≢ 0 = eqb-false (length ws) 0 (sym c.if-is_empty.ensures) in
    let inputs = c.in_ok-inputs.inputs.items in
    let output = c.in_ok-output.output in
    let front = take (length ws - 1) ws in
    let last = get_or ws (length ws - 1) (record { ref_ptr = (0, 0); now = [] }) in
    let few : length inputs ≤ 8 = omega (arith, ap length c.in_ok-inputs.ensures, length-map front bytes, length-take (length ws - 1) ws) in
    let parts = map-last bytes ws (record { ref_ptr = (0, 0); now = [] }) (omega arith) in
    sym (ap names_of (parts ∙ ap (λ l. l ++ last.now ∷ []) (sym c.in_ok-inputs.ensures) ∙ ap (λ o. inputs ++ o ∷ []) (sym c.in_ok-output.ensures)) ∙
    names_of-last inputs output few)
