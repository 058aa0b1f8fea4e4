-- To believe: when the dependency relation of a program's graph has a cycle, and how one is shown.
use Rattle.std.specs.Prelude.{◌≡◌, ℕ, List, [], ◌∷◌, map, codes, Contains}
use Rattle.est_kernel.specs.Plain.{Program}
use Rattle.grc_graph.specs.Edges.{Edge, edge}
use Rattle.grc_graph.specs.GraphRuns.{program_edges}
use Rattle.grc_graph.specs.Orders.{GoUp}
use Rattle.grc_graph.specs.WireNames.{WireName, wire_name}
use Rattle.grc_graph.specs.Wires.{Wire}
use Rattle.cec_compile.specs.WireTexts.{joined_texts}

-- from a wire there is an edge to the first of the list, from each wire of the list one to the next, and from the last
-- one back to the wire where the walk began
abbrev pub LeadsBack : List Edge → (first last : Wire) → List Wire → Type 0
LeadsBack edges first last [] = Contains edges (edge last first)
LeadsBack edges first last (w ∷ ws) = Contains edges (edge last w) × LeadsBack edges first w ws

-- a closed walk: each wire has an edge to the next, and the last one to the first
abbrev pub IsCycle : List Edge → List Wire → Type 0
IsCycle edges [] = ⊥
IsCycle edges (w ∷ ws) = LeadsBack edges w w ws

-- the dependency relation of the program's graph has a cycle of the wires with these names
pub record ShowsCycle (p : Program) (names : List WireName) : Type 0 where
  pub walk : List Wire
  pub cycle : IsCycle (program_edges p) walk
  pub named : names ≡ map (wire_name p) walk

-- It has no cycle: the wires have ranks that each edge goes up in.
pub record IsAcyclic (p : Program) : Type 0 where
  pub rank : Wire → ℕ
  pub up : GoUp rank (program_edges p)

-- the texts of wires, joined by ` -> `
abbrev pub cycle_text : List WireName → List ℕ
cycle_text ws = joined_texts (codes " -> ") ws
