-- Edges by the numbers of their wires.
use Rattle.std.proofs.Common.{ℕ, ◌<◌, List, subst, arith}
use Rattle.std.specs.Prelude.{slice_index}
use Rattle.std.proofs.lemmas.List.{length-map, get_or-map}
use Rattle.std.proofs.lemmas.List.Elements.{All-map}
use Rattle.base_digraph.specs.Walks.{JoinsNodes}
use Rattle.base_digraph.specs.Walks as nodes
use Rattle.grc_graph.specs.WireOrders.{WireEdge, AreEdges, AreRanks}
use Rattle.grc_dep.specs.Cycles.{numbered}

pub numbered_join : (count : ℕ) (pairs : List WireEdge) → AreEdges count pairs → JoinsNodes count (numbered pairs)
numbered_join count pairs are =
    All-map (λ (e : ℕ × ℕ). (e.0 < count) × (e.1 < count)) (λ (e : WireEdge). (e.0.0, e.1.0)) pairs are.join

pub ranks_along : (count : ℕ) (pairs : List WireEdge) (ranks : List ℕ) → nodes.AreRanks count (numbered pairs) ranks → AreRanks count pairs ranks
ranks_along count pairs ranks are = record {
  each_wire = are.each_node;
  grow = λ k d low.
      let number : WireEdge → ℕ × ℕ = λ e. (e.0.0, e.1.0) in
      let at = are.grow k (number d) (omega (arith, length-map pairs number, low)) in
      subst (λ (e : ℕ × ℕ). slice_index ranks e.0 < slice_index ranks e.1) (get_or-map number pairs k d (number d) low) at;
}
