-- A walk of edges leads from what a shared equation reads to its own wire; so where the edges go up there is one solution.
use Rattle.std.proofs.Common.{◌≡◌, ℕ, ◌<◌, ◌==◌, Bool, true, false, cond, List, [], ◌∷◌, ◌++◌, length, get_or, refl, sym, ap, ◌∙◌, subst}
use Rattle.std.proofs.Common.{arith}
use Rattle.std.specs.Prelude.{All, Contains, nat_lt}
use Rattle.std.specs.List.{list_any}
use Rattle.std.proofs.lemmas.Bool.{and_parts, eqb-true}
use Rattle.std.proofs.lemmas.List.{get_or-map, length-map}
use Rattle.std.proofs.lemmas.List.Elements.{Contains-get_or}
use Rattle.base_facts.proofs.Lists.{contains-map}
use Rattle.est_kernel.specs.Plain.{Program, given_count, program_of}
use Rattle.grc_graph.specs.declared.graph.Graph.{Graph}
use Rattle.grc_graph.specs.BuiltGraphs.{IsGraphOf}
use Rattle.grc_graph.specs.Edges.{Edge}
use Rattle.grc_graph.specs.Equations.{Equation}
use Rattle.grc_graph.specs.Formulas.{Value, Conjunction, Disjunction}
use Rattle.grc_graph.specs.GraphRuns.{graph_of, program_edges, program_wires}
use Rattle.grc_graph.specs.Layers.{Layer, Resumed, Started}
use Rattle.grc_graph.specs.Orders.{GoUp}
use Rattle.grc_graph.specs.Reads.{ReadsOnly}
use Rattle.grc_graph.specs.Rows.{program_rows, row_at}
use Rattle.grc_graph.specs.Wires.{Wire, Out, Go, StatusOf, End}
use Rattle.grc_share.specs.SharedGraphs.{formula_for, has_own, is_guarded, renamed, shared_emissions}
use Rattle.grc_share.specs.SharedGraphs.{shared_equations, shared_formula, shared_graph}
use Rattle.grc_share.specs.SharedInstances.{Sharing, body_sharing}
use Rattle.grc_share.specs.SharedWires.{first_root, shared_edge, shared_edges, shared_layer, shared_wire, shared_wires}
use Rattle.grc_share.proofs.Exports.{IsLive, shared-differ}
use Rattle.grc_solutions.specs.GraphWires.{Differ, equation_wires}
use Rattle.grc_solutions.specs.Solutions.{HasOneSolution, ReadUp}
use Rattle.grc_solutions.proofs.Exports.{one_solution_lem}
use Rattle.grc_share_laws.specs.SharedSolutions.{IsWalk, LeadsTo, SharedGraphsHaveOneSolution, SharedGraphsReadUp, SharedReadsHaveWalks}
use Rattle.grc_share_laws.proofs.SharedThere.{equation-names}
use Rattle.grc_share_laws.proofs.SharedReads.{renamed-reads}
use Rattle.grc_share_laws.proofs.GraphReads.{Edged, kernel, limits, reads-found}
use Rattle.grc_share_laws.proofs.ReadUps.{any-reads, emissions-below, end-above, if-given, read-below}
use Rattle.grc_share_laws.proofs.SharedThere.{back, shared-itself, shared-there}

module _ (g : Graph) (built : IsGraphOf g (program_of g.program)) (T : Wire → Wire → Type 0) (join : (u v w : Wire) → T u v → T v w → T u w)
    (up : (e : Edge) → Contains (program_edges (program_of g.program)) e
    → T (shared_wire (body_sharing (program_of g.program).body) e.from) (shared_wire (body_sharing (program_of g.program).body) e.to)) where
  abbrev p : Program
  p = program_of g.program

  abbrev K : Sharing
  K = body_sharing (program_of g.program).body

  abbrev es : List Equation
  es = (graph_of (program_of g.program)).equations

  abbrev R : Wire → Wire
  R u = shared_wire (body_sharing (program_of g.program).body) u

  abbrev Lower : Wire → Wire → Type 0
  Lower v w = Contains (shared_wires (program_of g.program)) w → T w v

  renamed-for : (u : Wire) → Contains (program_wires (program_of g.program)) u → ReadsOnly (Lower (R u)) (renamed K (formula_for es u))
  renamed-for u c =
      renamed-reads K (λ w. Edged g built u w × IsLive K w) (Lower (R u)) (read-below p (kernel g built) (limits g built) T join up u) (formula_for es u)
      (reads-found g built u c)

  there-too : (u : Wire) → Contains (shared_wires (program_of g.program)) u → Contains (program_wires (program_of g.program)) u
  there-too u c = shared-there p (kernel g built) (limits g built) u c

  itself : (u : Wire) → Contains (shared_wires (program_of g.program)) u → shared_wire K u ≡ u
  itself u c = shared-itself p (kernel g built) (limits g built) u c

  equation-below : (u : Wire) → Contains (shared_wires (program_of g.program)) u → ReadsOnly (Lower (R u)) (shared_formula p u (formula_for es u))
  equation-below (Out s) c =
      any-reads (Lower (R (Out s))) _ (if-given (Lower (R (Out s))) (nat_lt s (given_count p)) s (shared_emissions p (Out s))
      (emissions-below p (kernel g built) (limits g built) T join up (Out s) refl))
  equation-below (StatusOf n l) c =
      any-reads (Lower (R (StatusOf n l))) (shared_emissions p (StatusOf n l))
      (emissions-below p (kernel g built) (limits g built) T join up (StatusOf n l) (itself (StatusOf n l) c))
  equation-below (Go n Resumed) c = renamed-for (Go n Resumed) (there-too (Go n Resumed) c)
  equation-below (Go n (Started r)) c = by (has_own K n r) refl
    where
      u : Wire
      u = Go n (Started r)

      by : (b : Bool) → has_own K n r ≡ b
          → ReadsOnly (Lower (R (Go n (Started r))))
          (cond b (Disjunction (renamed K (formula_for es (Go n (Started r)))) (renamed K (formula_for es (Go n (Started n))))) (renamed K (formula_for es
          (Go n (Started r)))))
      by true e =
          let a = and_parts (list_any (λ s. s == n) (K.live n).roots) _ e in
          let root : first_root K.root (K.live n).roots n ≡ r = eqb-true _ r (and_parts (first_root K.root (K.live n).roots n == r) _ a.1).0 in
          let live : IsLive K (Go n (Started n)) = a.0 in
          let own-there-too : Contains (program_wires p) (Go n (Started n)) =
          back p (kernel g built) (limits g built) (Go n (Started n)) live (subst (λ q. Contains (program_wires p) (Go n (Started q))) (sym root) (there-too
          (Go n (Started r)) c)) in
          let same : R (Go n (Started n)) ≡ R (Go n (Started r)) = ap (λ q. Go n (Started q)) root ∙ sym (itself (Go n (Started r)) c) in (
            renamed-for (Go n (Started r)) (there-too (Go n (Started r)) c),
            subst (λ b. ReadsOnly (Lower b) (renamed K (formula_for es (Go n (Started n))))) same (renamed-for (Go n (Started n)) own-there-too),
          )
      by false e = renamed-for (Go n (Started r)) (there-too (Go n (Started r)) c)
  equation-below (End n l k) c = by (is_guarded (row_at (program_rows p) n).statement)
    where
      layer_named : Wire → Layer
      layer_named (Out s) = Resumed
      layer_named (Go m j) = j
      layer_named (StatusOf m j) = j
      layer_named (End m j i) = j

      runs : Lower (R (End n l k)) (Go n l)
      runs d =
          let own : shared_layer K n l ≡ l = ap layer_named (itself (End n l k) c) in
          subst (λ j. T (Go n j) (R (End n l k))) own (end-above p (kernel g built) (limits g built) T join up n l k (there-too (End n l k) c))

      by : (b : Bool) → ReadsOnly (Lower (R (End n l k)))
          (cond b (Conjunction (Value (Go n l)) (renamed K (formula_for es (End n l k)))) (renamed K (formula_for es (End n l k))))
      by true = (runs, renamed-for (End n l k) (there-too (End n l k) c))
      by false = renamed-for (End n l k) (there-too (End n l k) c)

  -- ---- all equations

  abbrev equation-of : Wire → Equation
  equation-of u = record { wire = u; formula = shared_formula p u (formula_for es u) }

  pub reads : (ws : List Wire) → ws ≡ shared_wires (program_of g.program)
      → All (λ (e : Equation). ReadsOnly (λ u. Contains ws u → T u e.wire) e.formula) (shared_equations (program_of g.program))
  reads names same = λ i d l.
      let ws = shared_wires p in
      let low : i < length ws = omega (arith, l, length-map ws equation-of) in
      let u = get_or ws i (Go 0 Resumed) in
      let c = Contains-get_or ws i (Go 0 Resumed) low in
      let f = shared_formula p u (formula_for es u) in
      subst (λ (e : Equation). ReadsOnly (λ w. Contains names w → T w e.wire) e.formula)
      (sym (get_or-map equation-of ws i (Go 0 Resumed) d low))
      (subst (λ us. ReadsOnly (λ w. Contains us w → T w u) f) (sym same)
      (subst (λ v. ReadsOnly (Lower v) f) (itself u c) (equation-below u c)))

-- ---- walks

walk-joined : (p : Program) (xs ys : List Wire) (u v w : Wire) → IsWalk p u xs v → IsWalk p v ys w → IsWalk p u (xs ++ v ∷ ys) w
walk-joined p [] ys u v w h g = (h, g)
walk-joined p (x ∷ xs) ys u v w h g = (h.0, walk-joined p xs ys x v w h.1 g)

walks-join : (p : Program) (u v w : Wire) → LeadsTo p u v → LeadsTo p v w → LeadsTo p u w
walks-join p u v w h g = (h.0 ++ v ∷ g.0, walk-joined p h.0 g.0 u v w h.1 g.1)

pub shared_reads_have_walks_lem : SharedReadsHaveWalks
shared_reads_have_walks_lem g built =
    let p = program_of g.program in
    reads g built (LeadsTo p) (walks-join p)
    (λ e c. ([], contains-map (shared_edge (body_sharing p.body)) (program_edges p) e c)) (shared_wires p) refl

-- ---- ranks

module _ (g : Graph) (built : IsGraphOf g (program_of g.program)) (rank : Wire → ℕ) (up : GoUp rank (shared_edges (program_of g.program))) where
  less : (u v w : Wire) → rank u < rank v → rank v < rank w → rank u < rank w
  less u v w h g = omega (arith, h, g)

  -- the rank of a wire's shared wire: each edge of the program goes up in it
  pub members-up : (e : Edge) → Contains (program_edges (program_of g.program)) e
      → rank (shared_wire (body_sharing (program_of g.program).body) e.from) < rank (shared_wire (body_sharing (program_of g.program).body) e.to)
  members-up e c =
      let p = program_of g.program in
      up (shared_edge (body_sharing p.body) e) (contains-map (shared_edge (body_sharing p.body)) (program_edges p) e c)

  pub read-up : ReadUp rank (shared_equations (program_of g.program))
  read-up =
      let p = program_of g.program in
      reads g built (λ u w. rank u < rank w) less members-up (equation_wires (shared_equations p))
      (equation-names (λ w. shared_formula p w (formula_for (graph_of p).equations w)) (shared_wires p))

  pub one-solution : HasOneSolution (shared_graph (program_of g.program))
  one-solution =
      let p = program_of g.program in
      one_solution_lem (shared_graph p) rank
      (subst Differ (sym (equation-names (λ w. shared_formula p w (formula_for (graph_of p).equations w)) (shared_wires p)))
      (shared-differ p (kernel g built) (limits g built))) read-up

pub shared_graphs_read_up_lem : SharedGraphsReadUp
shared_graphs_read_up_lem g rank built up = read-up g built rank up

pub shared_graphs_have_one_solution_lem : SharedGraphsHaveOneSolution
shared_graphs_have_one_solution_lem g rank built up = one-solution g built rank up
