-- The pairs that are found are the edges between the wires of a list.
use Rattle.std.proofs.Common.{◌≡◌, ℕ, ◌<◌, ◌∷◌, [], List, length, get_or, refl, ap, sym, subst, ◌∙◌, arith, Option, Some, None}
use Rattle.std.specs.Prelude.{AllPairs, Contains, IsTrue, ◌↔◌}
use Rattle.std.proofs.lemmas.List.Elements.{Contains-get_or}
use Rattle.base_facts.proofs.Lists.{contains-flat_map}
use Rattle.grc_graph.specs.Layers.{Resumed}
use Rattle.grc_graph.specs.Wires.{Wire, Go}
use Rattle.grc_graph.specs.Edges.{Edge, edge}
use Rattle.grc_graph.specs.PlainGraphs.{wire_at}
use Rattle.grc_graph.specs.NumberedEdges.{AreEdgesOf, named_edge}
use Rattle.grc_graph.specs.WireOrders.{WireEdge, edge_before}
use Rattle.grc_dep.specs.Names.{number_of, Apart}
use Rattle.grc_dep.specs.Found.{pair_of, found}
use Rattle.grc_dep.proofs.WireNumbers.{number_at, number_is}
use Rattle.grc_dep.proofs.WiresApart.{in_flat_map}

-- the numbers of a pair are those that it is made of
record Numbered (i j : Option ℕ) (x : WireEdge) : Type 0 where
  pub from : i ≡ Some x.0.0
  pub to : j ≡ Some x.1.0

only_pair : (i j : Option ℕ) (x : WireEdge) → Contains (pair_of i j) x → Numbered i j x
only_pair None j x c = absurd (omega (arith, c.1))
only_pair (Some i) None x c = absurd (omega (arith, c.1))
only_pair (Some i) (Some j) x c =
    let z : c.0 ≡ 0 = omega (arith, c.1) in
    let e = ap (λ k. get_or ((record { 0 = i }, record { 0 = j }) ∷ []) k x) (sym z) ∙ c.2 in
    record { from = ap (λ (y : WireEdge). Some y.0.0) e; to = ap (λ (y : WireEdge). Some y.1.0) e }

-- the edge of a pair that is found
pub record FoundAt (ws : List Wire) (es : List Edge) (x : WireEdge) : Type 0 where
  pub from : x.0.0 < length ws
  pub to : x.1.0 < length ws
  pub has : Contains es (named_edge ws x.0.0 x.1.0)

pub found_at : (ws : List Wire) (es : List Edge) (x : WireEdge) → Contains (found ws es) x → FoundAt ws es x
unfolding found
found_at ws es x c =
    let h = in_flat_map (λ (e : Edge). pair_of (number_of ws e.from) (number_of ws e.to)) es x c in
    let n = only_pair (number_of ws h.0.from) (number_of ws h.0.to) x h.2 in
    let from = number_is ws h.0.from x.0.0 n.from in
    let to = number_is ws h.0.to x.1.0 n.to in
    record {
      from = from.within;
      to = to.within;
      has = subst (Contains es) (λ i. edge (sym (from.at (Go 0 Resumed)) i) (sym (to.at (Go 0 Resumed)) i)) h.1;
    }

pub found_has : (ws : List Wire) (es : List Edge) (i j : ℕ) → Apart ws → i < length ws → j < length ws → Contains es (named_edge ws i j)
    → Contains (found ws es) (record { 0 = i }, record { 0 = j })
unfolding found
found_has ws es i j apart l m c =
    let f : Edge → List WireEdge = λ e. pair_of (number_of ws e.from) (number_of ws e.to) in
    let from = number_at ws i (wire_at ws i) (Go 0 Resumed) apart l refl in
    let to = number_at ws j (wire_at ws j) (Go 0 Resumed) apart m refl in
    let one : pair_of (number_of ws (wire_at ws i)) (number_of ws (wire_at ws j)) ≡ (record { 0 = i }, record { 0 = j }) ∷ [] = λ k. pair_of (from k) (to k) in
    contains-flat_map f es (named_edge ws i j) (record { 0 = i }, record { 0 = j }) c
    (subst (λ ps. Contains ps (record { 0 = i }, record { 0 = j })) (sym one) (0, omega arith, refl))

-- sorted pairs, each once
pub are_edges_of : (ws : List Wire) (es : List Edge) (pairs : List WireEdge) → Apart ws → AllPairs (λ d e. IsTrue (edge_before d e)) pairs
    → ((x : WireEdge) → Contains pairs x ↔ Contains (found ws es) x) → AreEdgesOf ws es pairs
are_edges_of ws es pairs apart ascend same = record {
  ascending = record {
    join = λ k d low.
        let h = found_at ws es (get_or pairs k d) ((same (get_or pairs k d)).0 (Contains-get_or pairs k d low)) in (h.from, h.to);
    ascend = ascend;
  };
  sound = λ from to c. (found_at ws es (record { 0 = from }, record { 0 = to }) ((same (record { 0 = from }, record { 0 = to })).0 c)).has;
  whole = λ from to l m c. (same (record { 0 = from }, record { 0 = to })).1 (found_has ws es from to apart l m c);
}
