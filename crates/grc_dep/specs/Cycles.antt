-- Contract: what the search for a cycle of dependency edges answers.
use Rattle.std.specs.Prelude.{ℕ, Bool, true, false, List, map}
use Rattle.base_types.specs.declared.indices.WireId.{WireId}
use Rattle.base_digraph.specs.Walks.{IsClosedWalk}
use Rattle.grc_graph.specs.WireOrders.{WireEdge, AreRanks}
use Rattle.grc_dep.specs.declared.ranking.Ranked.{Ranked}
use Rattle.grc_dep.specs.declared.ranking.Ranked.TheVariants.{Acyclic, Cycle}

-- wires, and edges, by their numbers
abbrev pub numbers_of : List WireId → List ℕ
numbers_of wires = map (λ w. w.0) wires

abbrev pub numbered : List WireEdge → List (ℕ × ℕ)
numbered pairs = map (λ e. (e.0.0, e.1.0)) pairs

-- ranks grow along each edge, and a cycle is a closed walk
abbrev pub IsAnswer : (count : ℕ) → List WireEdge → Ranked → Type 0
IsAnswer count pairs (Acyclic ranks) = AreRanks count pairs ranks.of.items
IsAnswer count pairs (Cycle walk) = IsClosedWalk (numbered pairs) (numbers_of walk.items)

abbrev pub is_cycle : Ranked → Bool
is_cycle (Acyclic ranks) = false
is_cycle (Cycle walk) = true
