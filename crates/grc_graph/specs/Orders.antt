-- To believe: evaluation orders of a graph, and when its dependency relation has no cycle.
use Rattle.std.specs.Prelude.{◌≡◌, ℕ, ◌<◌, List, Contains, IsPermutation, slice_get, Some}
use Rattle.grc_graph.specs.Wires.{Wire}
use Rattle.grc_graph.specs.Edges.{Edge}

-- A list of all wires, each once, in which no wire stands before one that has an edge to it.
pub record IsOrder (wires : List Wire) (edges : List Edge) (order : List Wire) : Type 0 where
  pub each_once : IsPermutation order wires
  pub along : (e : Edge) (i j : ℕ) → Contains edges e → slice_get order i ≡ Some e.from →
      slice_get order j ≡ Some e.to → i < j

-- Each edge goes up in rank. There are such ranks exactly where no edge lies on a closed walk.
abbrev pub GoUp : (Wire → ℕ) → List Edge → Type 0
GoUp rank edges = (e : Edge) → Contains edges e → rank e.from < rank e.to
