use Rattle.std.proofs.Common.{◌≡◌, ◌++◌, map, drop}
use Rattle.est_kernel.specs.Plain.{program_of}
use Rattle.grc_graph.specs.PlainGraphs.{wire_of, instances_of, names_of}
use Rattle.grc_list.specs.Listings.{wire_lines}
use Rattle.grc_list.proofs.listing.put_wires.Given as goal

-- what is written, and what is still to write, are the whole
abbrev pub invariant-loop-number : goal.invariant-loop-number
invariant-loop-number l =
    l.text.items ++ wire_lines (program_of l.graph.program) l.number (map (wire_of (instances_of l.graph)) (drop l.number l.graph.wires.items))
    ≡ l.fn.text.items ++ wire_lines (program_of l.graph.program) 0 (names_of l.graph)
