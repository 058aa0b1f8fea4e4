use Rattle.std.proofs.Common.{◌∙◌, map, ap, arith}
use Rattle.std.proofs.lemmas.List.{take_all}
use Rattle.base_types.specs.declared.indices.WireId.{WireId}
use Rattle.est_kernel.specs.Plain.{program_of}
use Rattle.grc_graph.specs.WireNames.{wire_name}
use Rattle.grc_graph.specs.PlainGraphs.{wire_at, names_of}
use Rattle.grc_list.proofs.names.names_of.Goals as goal

pub returns : goal.returns
returns c =
    let g = c.args.graph.now in
    c.loop-wire.invariant ∙ ap (map (λ (w : WireId). wire_name (program_of g.program) (wire_at (names_of g) w.0)))
    (take_all c.loop-wire.wire-index c.args.wires.now (omega arith))
