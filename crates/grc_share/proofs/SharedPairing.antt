-- Edges between shared wires by number: a pair of numbers is an edge exactly where some edge joins members of both.
use Rattle.std.proofs.Common.{◌≡◌, ℕ, ◌+◌, ◌-◌, ◌<◌, ◌≤◌, Bool, not, List, length, map, get_or, refl, sym, ap, ◌∙◌, subst, arith}
use Rattle.std.specs.Prelude.{All, Contains, IsTrue, slice_index, ◌↔◌}
use Rattle.std.proofs.lemmas.List.{get_or-map, get_or_default, length-map}
use Rattle.std.proofs.lemmas.List.Filters.{length-filter_both}
use Rattle.std.proofs.lemmas.List.Elements.{All-contains, All-get_or, All-map, Contains-get_or}
use Rattle.base_digraph.specs.Answers as digraph
use Rattle.base_digraph.specs.Walks.{AreRanks, HasEdge, IsClosedWalk, JoinsNodes}
use Rattle.base_digraph.specs.declared.ranking.RanksOrCycle.{RanksOrCycle}
use Rattle.base_digraph.specs.declared.ranking.RanksOrCycle.TheVariants.{Ranks, Cycle}
use Rattle.base_types.specs.declared.indices.WireId.{WireId}
use Rattle.est_kernel.specs.Plain.{Program}
use Rattle.est_kernel.specs.WellFormed.{IsKernel, KeepsLimits}
use Rattle.base_facts.proofs.Lists.{contains-map}
use Rattle.grc_graph.specs.Edges.{edge}
use Rattle.grc_graph.specs.GraphRuns.{program_edges, program_wires}
use Rattle.grc_graph.specs.Layers.{Resumed}
use Rattle.grc_graph.specs.NumberedEdges.{AreEdgesOf, named_edge}
use Rattle.grc_graph.specs.PlainGraphs.{wire_at}
use Rattle.grc_graph.specs.WireOrders as orders
use Rattle.grc_graph.specs.WireOrders.{WireEdge}
use Rattle.grc_graph.specs.Wires.{Wire, Out, Go, same_wire}
use Rattle.grc_solutions.specs.GraphWires.{EdgesJoinWires}
use Rattle.grc_share.specs.SharedInstances.{body_sharing}
use Rattle.grc_share.specs.SharedNumbers.{AreSharedRanks, AreSharedWires, HasSharedEdge, IsSharedAnswer, IsSharedWalk}
use Rattle.grc_share.specs.SharedPairs.{numbered_edges, numbered_pairs}
use Rattle.grc_share.specs.SharedWires.{shared_edge, shared_edges, shared_wire, shared_wires}
use Rattle.grc_share.proofs.SharedNumbering.{body_codes, shared-apart}

-- what is in a list of images is the image of what has its place
image : {X Y : Type 0} (f : X → Y) (xs : List X) (d : X) (y : Y) → Contains (map f xs) y → (k : ℕ) × (k < length xs) × (f (get_or xs k d) ≡ y)
image f xs d y c =
    let low : c.0 < length xs = omega (arith, c.1, length-map xs f) in
    (c.0, low, sym (get_or-map f xs c.0 d y low) ∙ c.2)

no_edge : WireEdge
no_edge = (record { 0 = 0 }, record { 0 = 0 })

module _ (p : Program) (kernel : IsKernel p.body) (limits : KeepsLimits p.body) (join : EdgesJoinWires) (least : List WireId) (numbers : List ℕ)
    (shared : AreSharedWires p least numbers) (pairs : List WireEdge) (edges : AreEdgesOf (program_wires p) (program_edges p) pairs) where
  pub least-many : length least ≡ length (shared_wires p)
  least-many = sym (length-map least (λ w. wire_at (program_wires p) w.0)) ∙ ap length shared.least_members

  number : ℕ → ℕ
  number w = slice_index numbers w

  number-low : (w : ℕ) → w < length (program_wires p) → slice_index numbers w < length (shared_wires p)
  number-low w l =
      omega (arith, least-many, All-get_or (λ k. k < length least) numbers w 0 (omega (arith, l, shared.each_wire)) shared.within)

  ends : All (λ e. (e.0.0 < length (program_wires p)) × (e.1.0 < length (program_wires p))) pairs
  ends = edges.ascending.join

  pub ends-low : All (λ e. (e.0.0 < length numbers) × (e.1.0 < length numbers)) pairs
  ends-low = subst (λ n. All (λ (e : WireEdge). (e.0.0 < n) × (e.1.0 < n)) pairs) (sym shared.each_wire) ends

  -- no more shared wires than wires
  pub least-few : length least ≤ length (program_wires p)
  least-few =
      let leads : Wire → Bool = λ w. same_wire (shared_wire (body_sharing p.body) w) w in
      omega (arith, least-many, length-filter_both leads (λ w. not (leads w)) (λ w. refl) (program_wires p))

  join-nodes : JoinsNodes (length (shared_wires p)) (numbered_pairs numbers pairs)
  join-nodes =
      All-map (λ (e : ℕ × ℕ). (e.0 < length (shared_wires p)) × (e.1 < length (shared_wires p)))
      (λ (e : WireEdge). (slice_index numbers e.0.0, slice_index numbers e.1.0)) pairs
      (λ k d l. let x = ends k d l in (number-low (get_or pairs k d).0.0 x.0, number-low (get_or pairs k d).1.0 x.1))

  -- the shared edge of an edge by numbers
  named : (u w : ℕ) → u < length (program_wires p) → w < length (program_wires p)
      → shared_edge (body_sharing p.body) (named_edge (program_wires p) u w) ≡ named_edge (shared_wires p) (slice_index numbers u) (slice_index numbers w)
  named u w l m = λ i. edge (sym (shared.named u l) i) (sym (shared.named w m) i)

  pair-edge : (from to : ℕ) → HasEdge (numbered_pairs numbers pairs) from to → HasSharedEdge p from to
  pair-edge from to h =
      let x = image (λ (e : WireEdge). (slice_index numbers e.0.0, slice_index numbers e.1.0)) pairs no_edge (from, to) h in
      let e = get_or pairs x.0 no_edge in
      let low = ends x.0 no_edge x.1 in
      let first : slice_index numbers e.0.0 ≡ from = ap (λ y. y.0) x.2 in
      let second : slice_index numbers e.1.0 ≡ to = ap (λ y. y.1) x.2 in
      let there = contains-map (shared_edge (body_sharing p.body)) (program_edges p) (named_edge (program_wires p) e.0.0 e.1.0)
      (edges.sound e.0.0 e.1.0 (Contains-get_or pairs x.0 no_edge x.1)) in
      record {
        begins = subst (λ k. k < length (shared_wires p)) first (number-low e.0.0 low.0);
        ends = subst (λ k. k < length (shared_wires p)) second (number-low e.1.0 low.1);
        leads = subst (λ y. Contains (shared_edges p) y)
            (named e.0.0 e.1.0 low.0 low.1 ∙ λ i. named_edge (shared_wires p) (first i) (second i)) there;
      }

  -- a shared wire has one number
  one-number : (w k : ℕ) → w < length (program_wires p) → k < length (shared_wires p)
      → shared_wire (body_sharing p.body) (wire_at (program_wires p) w) ≡ wire_at (shared_wires p) k → slice_index numbers w ≡ k
  one-number w k l m e = shared-apart p kernel limits (slice_index numbers w) k (number-low w l) m (shared.named w l ∙ e)

  place : (u : Wire) → Contains (program_wires p) u → (w : ℕ) × (w < length (program_wires p)) × (wire_at (program_wires p) w ≡ u)
  place u c = (c.0, c.1, get_or_default (program_wires p) c.0 (Go 0 Resumed) u c.1 ∙ c.2)

  edge-pair : (from to : ℕ) → HasSharedEdge p from to → HasEdge (numbered_pairs numbers pairs) from to
  edge-pair from to h =
      let none = edge (Out 0) (Out 0) in
      let x = image (shared_edge (body_sharing p.body)) (program_edges p) none (named_edge (shared_wires p) from to) h.leads in
      let e = get_or (program_edges p) x.0 none in
      let both = join p (body_codes p kernel limits) x.0 none x.1 in
      let u = place e.from both.0 in
      let w = place e.to both.1 in
      let same : e ≡ named_edge (program_wires p) u.0 w.0 = λ i. edge (sym u.2 i) (sym w.2 i) in
      let pair = edges.whole u.0 w.0 u.1 w.1 (subst (λ y. Contains (program_edges p) y) same (Contains-get_or (program_edges p) x.0 none x.1)) in
      let first = one-number u.0 from u.1 h.begins (ap (shared_wire (body_sharing p.body)) u.2 ∙ ap (λ y. y.from) x.2) in
      let second = one-number w.0 to w.1 h.ends (ap (shared_wire (body_sharing p.body)) w.2 ∙ ap (λ y. y.to) x.2) in
      subst (λ (y : ℕ × ℕ). Contains (numbered_pairs numbers pairs) y) (λ i. (first i, second i))
      (contains-map (λ (e : WireEdge). (slice_index numbers e.0.0, slice_index numbers e.1.0)) pairs (record { 0 = u.0 }, record { 0 = w.0 }) pair)

  shared-walk : (walk : List ℕ) → IsClosedWalk (numbered_pairs numbers pairs) walk → IsSharedWalk p walk
  shared-walk walk c = record {
    some_wire = c.some_node;
    steps = λ k l. pair-edge (slice_index walk k) (slice_index walk (k + 1)) (c.steps k l);
    closes = pair-edge (slice_index walk (length walk - 1)) (slice_index walk 0) c.closes;
  }

  closed-walk : (walk : List ℕ) → IsSharedWalk p walk → IsClosedWalk (numbered_pairs numbers pairs) walk
  closed-walk walk c = record {
    some_node = c.some_wire;
    steps = λ k l. edge-pair (slice_index walk k) (slice_index walk (k + 1)) (c.steps k l);
    closes = edge-pair (slice_index walk (length walk - 1)) (slice_index walk 0) c.closes;
  }

  shared-ranks : (ranks : List ℕ) → AreRanks (length (shared_wires p)) (numbered_pairs numbers pairs) ranks → AreSharedRanks p ranks
  shared-ranks ranks r = record {
    each_wire = r.each_node;
    below = r.below;
    grow = λ from to h. All-contains (λ (e : ℕ × ℕ). slice_index ranks e.0 < slice_index ranks e.1) (numbered_pairs numbers pairs) (from, to) r.grow
        (edge-pair from to h);
  }

  shared-answer : (r : RanksOrCycle) → digraph.IsAnswer (length (shared_wires p)) (numbered_pairs numbers pairs) r → IsSharedAnswer p r
  shared-answer (Ranks r) h = (shared-ranks r.ranks.items h.0, h.1)
  shared-answer (Cycle walk) h = shared-walk walk.items h

  -- the edges between shared wires, each once, are those that the numbers of the edges' ends make
  pub joined-low : (n : ℕ) → n ≡ length least → All (λ e. (e.0.0 < n) × (e.1.0 < n)) (numbered_edges numbers pairs)
  joined-low n e =
      subst (λ m. All (λ (e : WireEdge). (e.0.0 < m) × (e.1.0 < m)) (numbered_edges numbers pairs)) (sym (e ∙ least-many))
      (All-map (λ (e : WireEdge). (e.0.0 < length (shared_wires p)) × (e.1.0 < length (shared_wires p)))
      (λ (e : WireEdge). (record { 0 = slice_index numbers e.0.0 }, record { 0 = slice_index numbers e.1.0 })) pairs
      (λ k d l. let x = ends k d l in (number-low (get_or pairs k d).0.0 x.0, number-low (get_or pairs k d).1.0 x.1)))

  pub joined-edges : (n : ℕ) (out : List WireEdge) → n ≡ length least → orders.AreEdges n out
      → ((e : WireEdge) → Contains out e ↔ Contains (numbered_edges numbers pairs) e) → AreEdgesOf (shared_wires p) (shared_edges p) out
  joined-edges n out many ascending same = record {
    ascending = subst (λ m. orders.AreEdges m out) (many ∙ least-many) ascending;
    sound = λ from to c. (leads (record { 0 = from }, record { 0 = to }) ((same (record { 0 = from }, record { 0 = to })).0 c)).leads;
    whole = λ from to l m c.
        let found = edge-pair from to (record { begins = l; ends = m; leads = c }) in
        let x = image (λ (e : WireEdge). (slice_index numbers e.0.0, slice_index numbers e.1.0)) pairs no_edge (from, to) found in
        let e = get_or pairs x.0 no_edge in
        (same (record { 0 = from }, record { 0 = to })).1
        (subst (λ (y : ℕ × ℕ). Contains (numbered_edges numbers pairs) (record { 0 = y.0 }, record { 0 = y.1 })) x.2
        (contains-map (λ (e : WireEdge). (record { 0 = slice_index numbers e.0.0 }, record { 0 = slice_index numbers e.1.0 })) pairs e
        (Contains-get_or pairs x.0 no_edge x.1)));
  }
    where
      leads : (e : WireEdge) → Contains (numbered_edges numbers pairs) e → HasSharedEdge p e.0.0 e.1.0
      leads e c =
          let x = image (λ (e : WireEdge). (record { 0 = slice_index numbers e.0.0 }, record { 0 = slice_index numbers e.1.0 })) pairs no_edge e c in
          pair-edge e.0.0 e.1.0
          (subst (λ (y : WireEdge). Contains (numbered_pairs numbers pairs) (y.0.0, y.1.0)) x.2
          (contains-map (λ (e : WireEdge). (slice_index numbers e.0.0, slice_index numbers e.1.0)) pairs (get_or pairs x.0 no_edge)
          (Contains-get_or pairs x.0 no_edge x.1)))

  -- what is found of these nodes and edges
  module _ (count : ℕ) (nodes : List (ℕ × ℕ)) (many_nodes : count ≡ length least) (are_nodes : nodes ≡ numbered_pairs numbers pairs) where
    pub nodes-join : JoinsNodes count nodes
    nodes-join = subst (λ n. JoinsNodes n nodes) (sym (many_nodes ∙ least-many)) (subst (JoinsNodes (length (shared_wires p))) (sym are_nodes) join-nodes)

    pub found : (r : RanksOrCycle) → digraph.IsAnswer count nodes r → IsSharedAnswer p r
    found r h =
        shared-answer r (subst (λ n. digraph.IsAnswer n (numbered_pairs numbers pairs) r) (many_nodes ∙ least-many)
        (subst (λ (es : List (ℕ × ℕ)). digraph.IsAnswer count es r) are_nodes h))

    pub cyclic : (r : RanksOrCycle) → (IsTrue (digraph.is_cycle r) ↔ ((walk : List ℕ) × IsClosedWalk nodes walk))
        → IsTrue (digraph.is_cycle r) ↔ ((walk : List ℕ) × IsSharedWalk p walk)
    cyclic r h = (
      λ t. let x = h.0 t in (x.0, shared-walk x.0 (subst (λ (es : List (ℕ × ℕ)). IsClosedWalk es x.0) are_nodes x.1)),
      λ w. h.1 (w.0, subst (λ (es : List (ℕ × ℕ)). IsClosedWalk es w.0) (sym are_nodes) (closed-walk w.0 w.1)),
    )

-- ranks of shared wires grow along the edges between them
pub ranks-along : (p : Program) (out : List WireEdge) (ranks : List ℕ) → AreEdgesOf (shared_wires p) (shared_edges p) out → AreSharedRanks p ranks
    → orders.AreRanks (length (shared_wires p)) out ranks
ranks-along p out ranks are h = record {
  each_wire = h.each_wire;
  grow = λ k d l.
      let e = get_or out k d in
      let low = are.ascending.join k d l in
      h.grow e.0.0 e.1.0 (record { begins = low.0; ends = low.1; leads = are.sound e.0.0 e.1.0 (Contains-get_or out k d l) });
}
