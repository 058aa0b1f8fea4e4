-- Ranks of shared wires by number are ranks in which the edges between them go up.
use Rattle.std.proofs.Common.{◌≡◌, ℕ, zero, suc, ◌<◌, ◌≤◌, ◌==◌, Bool, true, false, cond, List, [], ◌∷◌, length, map, get_or}
use Rattle.std.proofs.Common.{refl, sym, ap, ◌∙◌, subst, ⊎_elim, arith}
use Rattle.std.specs.Prelude.{Contains, slice_index, zip}
use Rattle.std.specs.List.{position_or_len}
use Rattle.std.proofs.lemmas.Bool.{cases_lt, cases_order, cond-false, cond-true, eq-eqb, eqb-true, false≢true}
use Rattle.std.proofs.lemmas.List.{get_or_default, get_or-map, length-map}
use Rattle.std.proofs.lemmas.List.Elements.{All-contains, Contains-get_or}
use Rattle.std.proofs.lemmas.List.Sums.{fails_before_first, passes_at_first}
use Rattle.std.proofs.lemmas.Simd.{map-map}
use Rattle.std.proofs.lemmas.Slice.Zip.{seconds-zip}
use Rattle.base_types.specs.declared.indices.WireId.{WireId}
use Rattle.est_kernel.specs.Plain.{Program, program_of}
use Rattle.est_kernel.specs.WellFormed.{IsKernel, KeepsLimits}
use Rattle.est_kernel.proofs.Exports.{trees_are_kernels_lem}
use Rattle.grc_graph.specs.declared.formulas.Formula as stored
use Rattle.grc_graph.specs.Edges.{Edge, edge}
use Rattle.grc_graph.specs.Equations.{Equation}
use Rattle.grc_graph.specs.Formulas.{Formula, Const, Boot, Input, Value, Selected, Upto, Kept, Held, Negation, Conjunction, Disjunction}
use Rattle.grc_graph.specs.GraphRuns.{PlainGraph, graph_of, program_edges, program_wires}
use Rattle.grc_graph.specs.Layers.{Resumed}
use Rattle.grc_graph.specs.NumberedEdges.{AreEdgesOf}
use Rattle.grc_graph.specs.Orders.{GoUp}
use Rattle.grc_graph.specs.PlainGraphs.{formula_of, instances_of, names_of, wire_at, wire_of}
use Rattle.grc_graph.specs.Reads.{IsReadingOrder, ReadsOnly, StandsBefore}
use Rattle.grc_graph.specs.WireOrders as orders
use Rattle.grc_graph.specs.WireOrders.{WireEdge}
use Rattle.grc_graph.specs.Wires.{Wire, Go, same_wire}
use Rattle.grc_graph.proofs.Exports.{same_wire-self, same_wire-true}
use Rattle.grc_share.specs.declared.shared_graph.SharedGraph.{SharedGraph}
use Rattle.grc_share.specs.SharedGraphForms.{IsSharedGraphOf}
use Rattle.grc_share.specs.SharedGraphs.{formula_for, shared_equations, shared_formula}
use Rattle.grc_share.specs.SharedInstances.{body_sharing}
use Rattle.grc_share.specs.SharedNumbers.{HasSharedEdge}
use Rattle.grc_share.specs.SharedWires.{shared_edge, shared_edges, shared_wire, shared_wires}
use Rattle.grc_share.proofs.Exports.{body_codes, shared-differ}
use Rattle.grc_solutions.specs.GraphWires.{Differ, EdgesJoinWires, equation_wires}
use Rattle.grc_solutions.proofs.Exports.{stands_at}
use Rattle.grc_share_laws.specs.SharedSolutions.{SharedOrdersAreReadingOrders, SharedRanksGoUp}
use Rattle.grc_share_laws.proofs.Lists.{of-mapped}
use Rattle.grc_share_laws.proofs.SharedMet.{named-there}
use Rattle.grc_share_laws.proofs.SharedOnce.{read-up}
use Rattle.grc_share_laws.proofs.SharedThere.{equation-names}

-- the first place of a wire
abbrev place : List Wire → Wire → ℕ
place [] w = 0
place (x ∷ xs) w = cond (same_wire w x) 0 (suc (place xs w))

record Placed (xs : List Wire) (w : Wire) : Type 0 where
  within : place xs w < length xs
  same : (d : Wire) → get_or xs (place xs w) d ≡ w

placed : (xs : List Wire) (w : Wire) → Contains xs w → Placed xs w
placed [] w c = absurd (omega (arith, c.1))
placed (x ∷ xs) w c = by (same_wire w x) refl c.0 c.1 c.2 (λ d. placed xs w d)
  where
    at : (n : ℕ) → place (x ∷ xs) w ≡ n → n < length (x ∷ xs) → ((d : Wire) → get_or (x ∷ xs) n d ≡ w) → Placed (x ∷ xs) w
    at n e l f = record { within = subst (λ k. k < length (x ∷ xs)) (sym e) l; same = λ d. ap (λ k. get_or (x ∷ xs) k d) e ∙ f d }

    by : (b : Bool) → same_wire w x ≡ b → (i : ℕ) → i < length (x ∷ xs) → get_or (x ∷ xs) i w ≡ w → (Contains xs w → Placed xs w) → Placed (x ∷ xs) w
    by true e i l z rest = at 0 (cond-true (same_wire w x) 0 (suc (place xs w)) e) (omega arith) (λ d. sym (same_wire-true w x e))
    by false e zero l z rest = absurd (false≢true (sym e ∙ subst (λ y. same_wire y x ≡ true) z (same_wire-self x)))
    by false e (suc i) l z rest =
        let r = rest (i, omega (arith, l), z) in
        at (suc (place xs w)) (cond-false (same_wire w x) 0 (suc (place xs w)) e) (omega (arith, r.within)) r.same

-- of wires that differ each has its place
place-at : (xs : List Wire) (k : ℕ) → Differ xs → k < length xs → place xs (get_or xs k (Go 0 Resumed)) ≡ k
place-at xs k h l =
    let w = get_or xs k (Go 0 Resumed) in
    let p = placed xs w (Contains-get_or xs k (Go 0 Resumed) l) in
    ⊎_elim (λ e. e)
    (λ d. ⊎_elim
    (λ a. absurd (h (place xs w) k (Go 0 Resumed) a l (p.same (Go 0 Resumed))))
    (λ a. absurd (h k (place xs w) (Go 0 Resumed) a p.within (sym (p.same (Go 0 Resumed))))) d)
    (cases_order (place xs w) k)

module _ (join : EdgesJoinWires) (p : Program) (kernel : IsKernel p.body) (limits : KeepsLimits p.body) (f : ℕ → ℕ)
    (grow : (from to : ℕ) → HasSharedEdge p from to → f from < f to) where
  -- a rank of the shared wires, from one of their numbers
  abbrev pub ranked : Wire → ℕ
  ranked w = f (place (shared_wires p) w)

  step : (u w : Wire) → Contains (shared_wires p) u → Contains (shared_wires p) w → Contains (shared_edges p) (edge u w)
      → f (place (shared_wires p) u) < f (place (shared_wires p) w)
  step u w a b c =
      let x = placed (shared_wires p) u a in
      let y = placed (shared_wires p) w b in
      grow (place (shared_wires p) u) (place (shared_wires p) w) (record {
        begins = x.within;
        ends = y.within;
        leads = subst (λ v. Contains (shared_edges p) (edge (wire_at (shared_wires p) (place (shared_wires p) u)) v)) (sym (y.same (Go 0 Resumed)))
            (subst (λ v. Contains (shared_edges p) (edge v w)) (sym (x.same (Go 0 Resumed))) c);
      })

  pub ranked-up : GoUp ranked (shared_edges p)
  ranked-up e c =
      of-mapped (λ (x : Edge). Contains (shared_edges p) x → f (place (shared_wires p) x.from) < f (place (shared_wires p) x.to))
      (shared_edge (body_sharing p.body)) (program_edges p)
      (λ x d.
      let j = All-contains (λ (y : Edge). Contains (program_wires p) y.from × Contains (program_wires p) y.to) (program_edges p) x
      (join p (body_codes p kernel limits)) d in
      λ f. step (shared_wire (body_sharing p.body) x.from) (shared_wire (body_sharing p.body) x.to) (named-there p kernel limits x.from j.0)
      (named-there p kernel limits x.to j.1) f) e c c

  pub ranked-at : (k : ℕ) → k < length (shared_wires p) → ranked (wire_at (shared_wires p) k) ≡ f k
  ranked-at k l = ap f (place-at (shared_wires p) k (shared-differ p kernel limits) l)

-- the pair of an edge between shared wires
pair-of : (p : Program) (pairs : List WireEdge) (from to : ℕ) → AreEdgesOf (shared_wires p) (shared_edges p) pairs → HasSharedEdge p from to
    → Contains pairs (record { 0 = from }, record { 0 = to })
pair-of p pairs from to are h = are.whole from to h.begins h.ends h.leads

pub shared_ranks_go_up_lem : EdgesJoinWires → SharedRanksGoUp
shared_ranks_go_up_lem join p s kernel limits are =
    let f = slice_index s.ranks.of.items in
    let grow = λ (from to : ℕ) (h : HasSharedEdge p from to).
    All-contains (λ e. f e.0.0 < f e.1.0) s.edges.pairs.items (record { 0 = from }, record { 0 = to }) are.ranks.grow
    (pair-of p s.edges.pairs.items from to are.edges h) in
    (ranked join p kernel limits f grow, ranked-up join p kernel limits f grow, ranked-at join p kernel limits f grow)

-- ---- orders

-- the place of a wire in an order
abbrev turn : List WireId → ℕ → ℕ
turn order w = position_or_len (λ (v : WireId). v.0 == w) order

record Turn (order : List WireId) (w : ℕ) : Type 0 where
  within : turn order w < length order
  there : orders.wire_at order (turn order w) ≡ w
  first : (i : ℕ) → i < length order → orders.wire_at order i ≡ w → turn order w ≤ i

turn-of : (order : List WireId) (w : ℕ) → orders.times order w ≡ 1 → Turn order w
turn-of order w once =
    let at = stands_at order w once in
    let d : WireId = record { 0 = 0 } in
    let first = λ (i : ℕ) (l : i < length order) (e : orders.wire_at order i ≡ w).
    ⊎_elim (λ h. absurd (false≢true (sym (fails_before_first (λ (v : WireId). v.0 == w) order i d h) ∙ eq-eqb (orders.wire_at order i) w e))) (λ h. h)
    (cases_lt i (turn order w)) in
    let low : turn order w < length order = omega (arith, first at.0 at.1 at.2, at.1) in
    record {
      within = low;
      there = eqb-true (orders.wire_at order (turn order w)) w (passes_at_first (λ (v : WireId). v.0 == w) order d low);
      first = first;
    }

-- what is read, by its places among names
reads-placed : (names : List Wire) (Q : Wire → Type 0) (P : ℕ → Type 0) → ((v : ℕ) → v < length names → Q (wire_at names v) → P v) → (f : Formula)
    → ReadsOnly (λ u. Contains names u → Q u) f → ReadsOnly (λ u. (v : ℕ) → v < length names → wire_at names v ≡ u → P v) f
reads-placed names Q P g (Const b) h = tt
reads-placed names Q P g Boot h = tt
reads-placed names Q P g (Input s) h = tt
reads-placed names Q P g (Value w) h =
    λ v l e. g v l (subst Q (sym e) (h (subst (λ u. Contains names u) e (Contains-get_or names v (Go 0 Resumed) l))))
reads-placed names Q P g (Selected n) h = tt
reads-placed names Q P g (Upto n l k) h =
    λ j le v low e. g v low (subst Q (sym e) (h j le (subst (λ u. Contains names u) e (Contains-get_or names v (Go 0 Resumed) low))))
reads-placed names Q P g (Kept n l) h = absurd h
reads-placed names Q P g (Held n l) h = absurd h
reads-placed names Q P g (Negation a) h = reads-placed names Q P g a h
reads-placed names Q P g (Conjunction a b) h = (reads-placed names Q P g a h.0, reads-placed names Q P g b h.1)
reads-placed names Q P g (Disjunction a b) h = (reads-placed names Q P g a h.0, reads-placed names Q P g b h.1)

-- the formulas of a shared graph are those of the shared equations
formulas-shared : (p : Program) (s : SharedGraph) → IsSharedGraphOf p s
    → map (formula_of (instances_of s.graph) (names_of s.graph)) s.graph.equations.items ≡ map (λ (e : Equation). e.formula) (shared_equations p)
formulas-shared p s are =
    let insts = instances_of s.graph in
    let names = names_of s.graph in
    let fs = s.graph.equations.items in
    let F = formula_of insts names in
    let each : length fs ≡ length names = s.graph.indices.equations_all ∙ sym (length-map s.graph.wires.items (wire_of insts)) in
    ap (map F) (sym (seconds-zip names fs each)) ∙ map-map F (λ (e : Wire × stored.Formula). e.1) (zip names fs)
    ∙ sym (map-map (λ (e : Equation). e.formula) (λ (e : Wire × stored.Formula). record { wire = e.0; formula = F e.1 }) (zip names fs))
    ∙ ap (λ (x : PlainGraph). map (λ (e : Equation). e.formula) x.equations) are.graph

pub shared_orders_are_reading_orders_lem : EdgesJoinWires → SharedOrdersAreReadingOrders
shared_orders_are_reading_orders_lem join g s order built are o =
    let p = program_of g.program in
    let kernel = trees_are_kernels_lem g.program.body in
    let limits = g.laid_out.formed.body in
    let pairs = s.edges.pairs.items in
    let names = shared_wires p in
    let es = shared_equations p in
    let many : s.edges.count ≡ length names = are.count ∙ sym (length-map s.graph.wires.items (wire_of (instances_of s.graph))) ∙ ap length are.wires in
    let turned = λ (w : ℕ) (l : w < length names). turn-of order w (o.each_once w (omega (arith, many))) in
    let grow : (from to : ℕ) → HasSharedEdge p from to → turn order from < turn order to = λ from to h.
    let c = pair-of p pairs from to are.edges h in
    let e : orders.edge_at pairs c.0 ≡ (record { 0 = from }, record { 0 = to }) = get_or_default pairs c.0 _ _ c.1 ∙ c.2 in
    let a = turned from h.begins in
    let b = turned to h.ends in
    o.along c.0 (turn order from) (turn order to) c.1 a.within b.within (a.there ∙ sym (ap (λ x. x.0.0) e)) (b.there ∙ sym (ap (λ x. x.1.0) e)) in
    let rank = ranked join p kernel limits (turn order) grow in
    let at = ranked-at join p kernel limits (turn order) grow in
    let reads = read-up g built rank (ranked-up join p kernel limits (turn order) grow) in
    let wires : equation_wires es ≡ names = equation-names (λ w. shared_formula p w (formula_for (graph_of p).equations w)) names in
    subst (λ us. IsReadingOrder us (map (formula_of (instances_of s.graph) (names_of s.graph)) s.graph.equations.items) order) (sym are.wires)
    (subst (λ fs. IsReadingOrder names fs order) (sym (formulas-shared p s are)) (record {
      each_place = o.each_place ∙ many;
      in_range = λ w d l. omega (arith, o.in_range w d l, many);
      each_once = λ w l. o.each_once w (omega (arith, l, many));
      along = λ j d l.
          let w = orders.wire_at order j in
          let high : w < length names = omega (arith, o.in_range j (record { 0 = 0 }) l, many) in
          let low : w < length es = omega (arith, high, ap length wires, length-map es (λ (e : Equation). e.wire)) in
          let e : Equation = get_or es w (record { wire = Go 0 Resumed; formula = d }) in
          let named : e.wire ≡ wire_at names w =
          sym (get_or-map (λ (e : Equation). e.wire) es w (record { wire = Go 0 Resumed; formula = d }) (Go 0 Resumed) low) ∙ ap (λ us. wire_at us w) wires in
          let own = turned w high in
          subst (ReadsOnly (λ u. (v : ℕ) → v < length names → wire_at names v ≡ u → StandsBefore order v j))
          (sym (get_or-map (λ (e : Equation). e.formula) es w (record { wire = Go 0 Resumed; formula = d }) d low))
          (reads-placed names (λ u. rank u < rank e.wire) (λ v. StandsBefore order v j)
          (λ v k h.
          let other = turned v k in
          (turn order v, omega (arith, h, at v k, ap rank named, at w high, own.first j l refl), other.there))
          e.formula (subst (λ us. ReadsOnly (λ u. Contains us u → rank u < rank e.wire) e.formula) wires
          (reads w (record { wire = Go 0 Resumed; formula = d }) low)));
    }))
