-- What the passes up to the netlist ask of each other.
use Rattle.std.proofs.Common.{◌≡◌, ℕ, suc, ◌+◌, ◌-◌, ◌<◌, List, [], ◌∷◌, length, map, get_or, sym, ap, ◌∙◌, subst, arith}
use Rattle.std.specs.Prelude.{Contains, slice_index}
use Rattle.std.proofs.lemmas.List.{length-map, get_or-map}
use Rattle.std.proofs.lemmas.List.Elements.{Contains-get_or}
use Rattle.std.proofs.lemmas.Simd.{map-map}
use Rattle.base_digraph.specs.Walks.{HasEdge, IsClosedWalk}
use Rattle.base_types.specs.declared.indices.WireId.{WireId}
use Rattle.est_kernel.specs.Plain.{Program}
use Rattle.grc_dep.specs.Cycles.{numbered, numbers_of}
use Rattle.grc_graph.specs.declared.graph.Graph.{Graph}
use Rattle.grc_graph.specs.BuiltGraphs.{IsGraphOf}
use Rattle.grc_graph.proofs.Exports.{formulas_each}
use Rattle.grc_graph.specs.Edges.{Edge, edge}
use Rattle.grc_graph.specs.GraphRuns.{graph_of, program_edges, program_wires}
use Rattle.grc_graph.specs.NumberedEdges.{AreEdgesOf}
use Rattle.grc_graph.specs.PlainGraphs.{wire_at, wire_of, formula_of, instances_of, names_of}
use Rattle.grc_graph.specs.Reads.{IsReadingOrder}
use Rattle.grc_graph.specs.Selected.{HasExitCodes}
use Rattle.grc_graph.specs.WireNames.{WireName, wire_name}
use Rattle.grc_graph.specs.WireOrders.{WireEdge, AreRanks, IsWireOrder}
use Rattle.grc_graph.specs.Wires.{Wire}
use Rattle.grc_share.specs.SharedNumbers.{IsSharedWalk}
use Rattle.grc_share.specs.SharedWires.{shared_edges, shared_wires}
use Rattle.grc_solutions.specs.NumberedGraphs.{formulas_of}
use Rattle.grc_solutions.proofs.Exports.{wire_orders_are_reading_orders_lem, wire_ranks_go_up_lem}
use Rattle.cec_compile.specs.Cycles.{LeadsBack, IsCycle, ShowsCycle, IsAcyclic}
use Rattle.cec_compile.specs.WireGroups.{HasSharedCycle}

-- ---- wires and formulas

pub graph_formulas : (g : Graph) (p : Program) → IsGraphOf g p
    → formulas_of (graph_of p).equations ≡ map (formula_of (instances_of g) (names_of g)) g.equations.items
graph_formulas g p is = sym (formulas_each g p is)

pub wire_count : (g : Graph) (p : Program) → IsGraphOf g p → length g.wires.items ≡ length (program_wires p)
wire_count g p is = sym (length-map g.wires.items (wire_of (instances_of g))) ∙ ap length is.wires

-- an evaluation order along the edges is one along which the equations read
pub reading_order : (g : Graph) (p : Program) (count : ℕ) (pairs : List WireEdge) (order : List WireId) → IsGraphOf g p → HasExitCodes p.body
    → count ≡ length g.wires.items
    → AreEdgesOf (names_of g) (program_edges p) pairs → IsWireOrder count pairs order
    → IsReadingOrder (names_of g) (map (formula_of (instances_of g) (names_of g)) g.equations.items) order
reading_order g p count pairs order is kernel all edges along =
    let read = wire_orders_are_reading_orders_lem p pairs order kernel (subst (λ names. AreEdgesOf names (program_edges p) pairs) is.wires edges)
    (subst (λ n. IsWireOrder n pairs order) (all ∙ wire_count g p is) along) in
    subst (λ fs. IsReadingOrder (names_of g) fs order) (graph_formulas g p is)
    (subst (λ names. IsReadingOrder names (formulas_of (graph_of p).equations) order) (sym is.wires) read)

-- ---- cycles

-- edges that go up in ranks by number lie on no cycle
pub acyclic : (g : Graph) (p : Program) (count : ℕ) (pairs : List WireEdge) (ranks : List ℕ) → IsGraphOf g p → HasExitCodes p.body
    → count ≡ length g.wires.items → AreEdgesOf (names_of g) (program_edges p) pairs → AreRanks count pairs ranks → IsAcyclic p
acyclic g p count pairs ranks is kernel all edges grow =
    let up = wire_ranks_go_up_lem p pairs ranks kernel (subst (λ names. AreEdgesOf names (program_edges p) pairs) is.wires edges)
    (subst (λ n. AreRanks n pairs ranks) (all ∙ wire_count g p is) grow) in
    record { rank = up.0; up = up.1 }

-- an edge by plain numbers is one by the numbers of wires
abbrev plain_edge : WireEdge → ℕ × ℕ
plain_edge e = (e.0.0, e.1.0)

pair-there : (u w : ℕ) (pairs : List WireEdge) → Contains (numbered pairs) (u, w) → Contains pairs (record { 0 = u }, record { 0 = w })
pair-there u w pairs c =
    let d : WireEdge = (record { 0 = u }, record { 0 = w }) in
    let inside : c.0 < length pairs = omega (arith, c.1, length-map {B = ℕ × ℕ} pairs plain_edge) in
    let there : plain_edge (get_or pairs c.0 d) ≡ (u, w) = sym (get_or-map plain_edge pairs c.0 d (u, w) inside) ∙ c.2 in
    subst (λ e. Contains pairs e) (λ i. (record { 0 = (there i).0 }, record { 0 = (there i).1 })) (Contains-get_or pairs c.0 d inside)

-- a walk by its places leads back
leads_back : (edges : List Edge) (F : ℕ → Wire) (first last : ℕ) (ws : List ℕ)
    → ((k : ℕ) → k + 1 < length (last ∷ ws) → Contains edges (edge (F (slice_index (last ∷ ws) k)) (F (slice_index (last ∷ ws) (k + 1)))))
    → Contains edges (edge (F (slice_index (last ∷ ws) (length ws))) (F first))
    → LeadsBack edges (F first) (F last) (map F ws)
leads_back edges F first last [] steps closes = closes
leads_back edges F first last (w ∷ ws) steps closes = (
  steps 0 (omega arith),
  leads_back edges F first w ws
      (λ k l.
      let e : suc k + 1 ≡ suc (k + 1) = omega arith in
      subst (λ j. Contains edges (edge (F (slice_index (w ∷ ws) k)) (F (slice_index (last ∷ (w ∷ ws)) j)))) e (steps (suc k) (omega (arith, l))))
      closes,
)

-- a closed walk by places is a cycle
pub closed_cycle : (edges : List Edge) (F : ℕ → Wire) (ns : List ℕ) → 0 < length ns
    → ((k : ℕ) → k + 1 < length ns → Contains edges (edge (F (slice_index ns k)) (F (slice_index ns (k + 1)))))
    → Contains edges (edge (F (slice_index ns (length ns - 1))) (F (slice_index ns 0))) → IsCycle edges (map F ns)
closed_cycle edges F [] some steps closes = absurd (omega (arith, some))
closed_cycle edges F (n ∷ ns) some steps closes =
    let e : suc (length ns) - 1 ≡ length ns = omega arith in
    leads_back edges F n n ns steps (subst (λ j. Contains edges (edge (F (slice_index (n ∷ ns) j)) (F n))) e closes)

pub shows_cycle : (p : Program) (names : List Wire) (pairs : List WireEdge) (walk : List WireId) (shown : List WireName) →
    AreEdgesOf names (program_edges p) pairs
    → IsClosedWalk (numbered pairs) (numbers_of walk) → shown ≡ map (λ w. wire_name p (wire_at names w.0)) walk → ShowsCycle p shown
shows_cycle p names pairs walk shown are closed named = record {
  walk = map (wire_at names) (numbers_of walk);
  cycle = closed_cycle (program_edges p) (wire_at names) (numbers_of walk) closed.some_node
      (λ k l. step (slice_index (numbers_of walk) k) (slice_index (numbers_of walk) (k + 1)) (closed.steps k l))
      (step (slice_index (numbers_of walk) (length (numbers_of walk) - 1)) (slice_index (numbers_of walk) 0) closed.closes);
  named =
      named ∙ sym (map-map (λ n. wire_name p (wire_at names n)) (λ (w : WireId). w.0) walk)
      ∙ sym (map-map (wire_name p) (wire_at names) (numbers_of walk));
}
  where
    step : (u w : ℕ) → HasEdge (numbered pairs) u w → Contains (program_edges p) (edge (wire_at names u) (wire_at names w))
    step u w h = are.sound u w (pair-there u w pairs h)

-- a closed walk of edges between shared wires is a cycle of them
pub shared_cycle : (p : Program) (walk : List ℕ) → IsSharedWalk p walk → HasSharedCycle p
shared_cycle p walk closed = record {
  walk = map (wire_at (shared_wires p)) walk;
  cycle = closed_cycle (shared_edges p) (wire_at (shared_wires p)) walk closed.some_wire (λ k l. (closed.steps k l).leads) closed.closes.leads;
}
