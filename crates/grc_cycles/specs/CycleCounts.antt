-- To believe: what is counted of the cycles of a program's dependency relation.
use Rattle.std.specs.Prelude.{ℕ, List, length}
use Rattle.est_kernel.specs.Plain.{Program}
use Rattle.grc_graph.specs.GraphRuns.{program_edges, program_wires}
use Rattle.grc_graph.specs.NumberedEdges.{AreEdgesOf}
use Rattle.grc_graph.specs.WireOrders.{WireEdge}
use Rattle.grc_cycles.specs.Cuts.{HaveCounts}

-- Along some places of the wires the edges have this number of components and of cuts.
pub record HasCycleCounts (p : Program) (components cuts : ℕ) : Type 0 where
  pub pairs : List WireEdge
  pub are_edges : AreEdgesOf (program_wires p) (program_edges p) pairs
  pub have_counts : HaveCounts (length (program_wires p)) pairs components cuts
