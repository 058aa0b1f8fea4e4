use Rattle.std.proofs.Common.{◌≡◌, map, take}
use Rattle.est_kernel.specs.Plain.{program_of}
use Rattle.grc_graph.specs.WireNames.{wire_name}
use Rattle.grc_graph.specs.PlainWireNames.{wire_name_of}
use Rattle.grc_graph.specs.PlainGraphs.{wire_at, names_of}
use Rattle.grc_list.proofs.names.names_of.Given as goal

-- the names so far
abbrev pub invariant-loop-wire : goal.invariant-loop-wire
invariant-loop-wire l =
    map wire_name_of l.names.items ≡ map (λ w. wire_name (program_of l.graph.program) (wire_at (names_of l.graph) w.0)) (take l.wire-index l.wires)
