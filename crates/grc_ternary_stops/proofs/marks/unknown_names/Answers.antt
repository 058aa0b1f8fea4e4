use Rattle.std.proofs.Common.{◌≡◌, map, sym, ◌∙◌, subst}
use Rattle.std.proofs.lemmas.List.{length-map}
use Rattle.base_types.specs.declared.indices.WireId.{WireId}
use Rattle.est_kernel.specs.Plain.{program_of}
use Rattle.grc_graph.specs.PlainGraphs.{instances_of, names_of, wire_at, wire_of}
use Rattle.grc_graph.specs.PlainWireNames.{wire_name_of}
use Rattle.grc_graph.specs.WireNames.{wire_name}
use Rattle.grc_ternary_stops.proofs.Marked.{marked_names}
use Rattle.grc_ternary_stops.proofs.marks.unknown_names.Goals as goal

pub returns : goal.returns
returns c =
    let g = c.args.graph.now in
    let name = wire_name (program_of g.program) in
    marked_names name (names_of g) c.args.marks.now c.in_ok-numbers.numbers.items (map wire_name_of c.in_ok-names.names.items)
    (c.requires.each ∙ sym (length-map g.wires.items (wire_of (instances_of g)))) c.in_ok-numbers.ensures.numbers
    (subst (λ ns. map wire_name_of c.in_ok-names.names.items ≡ map (λ (w : WireId). name (wire_at (names_of g) w.0)) ns) c.deref.ensures.value
    c.in_ok-names.ensures)
