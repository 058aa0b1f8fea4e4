use Rattle.std.proofs.Common.{◌≡◌, refl, ap, ◌∙◌, arith, length, true, false, List, [], ◌∷◌}
use Rattle.net_ir.specs.declared.netlist.Gate.{Gate}
use Rattle.net_gen.proofs.Beginnings.{begun, no_entries, constant}
use Rattle.net_gen.proofs.begin.begin.Goals as goal

pub returns : goal.returns
returns c =
    let rows : c.len.result ≡ length c.args.words.now.rows.items = omega (arith, c.args.words.now.rows.ok.0, c.len.ensures) in
    let many = ap length c.wires-wires.ensures in
    let gates : c.in_ok-vec.field-0.items ≡ constant false ∷ (constant true ∷ []) = c.in_ok-vec.ensures.items
    ∙ ap (λ (x : Gate). x ∷ (c.constant_gate-2.result ∷ [])) c.constant_gate.ensures
    ∙ ap (λ (y : Gate). constant false ∷ (y ∷ [])) c.constant_gate-2.ensures in
    let numbers = c.count_before_gates-numbers.ensures in
    begun c.args.graph.now c.args.words.now _ numbers.given numbers.first numbers.fits refl refl gates
    (c.in_ok-no_nets.ensures ∙ ap no_entries many) (c.in_ok-no_nets-2.ensures ∙ ap no_entries many)
    (c.in_ok-no_nets-3.ensures ∙ ap no_entries rows)
