-- To believe: whether the wires of a program's graph are shared, and what the wires of its compiled graph stand for.
--
-- Wires that cannot be true in one instant except for one of them, as those of two starts of a statement under as many
-- loops, are one shared wire (`one_wire` in grc_share). The graph that is compiled is that of the shared wires, where
-- the edges between them have no cycle, and else the program's own, each wire of which stands for itself.
use Rattle.std.specs.Prelude.{ℕ, Bool, true, false, List, [], ◌∷◌, map, is_some}
use Rattle.est_kernel.specs.Plain.{Program}
use Rattle.grc_graph.specs.declared.graph.Graph.{Graph}
use Rattle.grc_graph.specs.Edges.{Edge}
use Rattle.grc_graph.specs.GraphRuns.{program_edges, program_wires}
use Rattle.grc_graph.specs.Orders.{GoUp}
use Rattle.grc_graph.specs.Wires.{Wire}
use Rattle.grc_share.specs.SharedWires.{members, shared_edges, shared_wires}
use Rattle.cec_compile.specs.Cycles.{IsCycle}

-- whether a graph is one of shared wires: it keeps the loop bodies around its program's statements
abbrev pub is_shared : Graph → Bool
is_shared g = is_some g.loops

-- the wires of the graph of a program, if its wires are shared or not, and the edges between them
abbrev pub graph_wires : Bool → Program → List Wire
graph_wires false p = program_wires p
graph_wires true p = shared_wires p

abbrev pub graph_edges : Bool → Program → List Edge
graph_edges false p = program_edges p
graph_edges true p = shared_edges p

-- the wires of the program that each of these stands for: itself, or the members of the shared wire
abbrev pub wire_groups : Bool → Program → List (List Wire)
wire_groups false p = map (λ w. w ∷ []) (program_wires p)
wire_groups true p = map (members p) (shared_wires p)

-- The edges between shared wires go up in some rank, so that they have no cycle; or they have one.
pub record HasSharedRank (p : Program) : Type 0 where
  pub rank : Wire → ℕ
  pub up : GoUp rank (shared_edges p)

pub record HasSharedCycle (p : Program) : Type 0 where
  pub walk : List Wire
  pub cycle : IsCycle (shared_edges p) walk

-- wires are shared exactly where the edges between shared wires have no cycle
abbrev pub SharesWires : Program → Bool → Type 0
SharesWires p true = HasSharedRank p
SharesWires p false = HasSharedCycle p
