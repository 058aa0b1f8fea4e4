-- The graph of a program: its edges join its wires, and its equations read along them.
use Rattle.std.proofs.Common.{◌≡◌, ℕ, zero, suc, ◌+◌, ◌<◌, ◌≤◌, Bool, true, cond, ltb, List, [], ◌∷◌, ◌++◌, map, Option, Some, None, refl, sym}
use Rattle.std.proofs.Common.{subst, ⊎_elim, arith}
use Rattle.std.specs.Prelude.{Contains}
use Rattle.std.specs.List.{flat_map, range_with_len}
use Rattle.std.proofs.lemmas.Bool.{cases_lt, cond_both, ltb-true, ltb-false, false≢true}
use Rattle.std.proofs.lemmas.List.Elements.{Contains-append_left, Contains-append_right}
use Rattle.base_facts.proofs.Lists.{Every, all-of-every, contains-flat_map, contains-map, every-append}
use Rattle.est_kernel.specs.Plain.{Program, interface_of, interface_count, outgoing_count, given_count}
use Rattle.est_kernel.specs.Terms.{Term, Emit, Par, Local}
use Rattle.est_kernel.specs.Preorder.{statement_count}
use Rattle.grc_graph.specs.Layers.{Layer, Resumed, Started, Liveness, body_layers, body_liveness}
use Rattle.grc_graph.specs.Scopes.{Entering, Outgoing, BoundAt, Unbound, Scope, program_scope}
use Rattle.grc_graph.specs.Wires.{Wire, Out, Go, StatusOf, End, status_wire, listed, instance_codes, instance_wires}
use Rattle.grc_graph.specs.Formulas.{Formula, Input, Value}
use Rattle.grc_graph.specs.Spots.{Spot, body_entry}
use Rattle.grc_graph.specs.Equations.{Equation, end_formula, is_wire, emits_on, emissions, instance_status, instance_equations, output_equation, equations}
use Rattle.grc_graph.specs.Edges.{edge, edges_at, go_to_ends, to_status}
use Rattle.grc_graph.specs.Reads.{ReadsOnly}
use Rattle.grc_graph.specs.Selected.{HasExitCodes}
use Rattle.grc_graph.specs.GraphRuns.{program_spots, graph_of}
use Rattle.grc_solutions.specs.GraphWires.{program_wires, program_edges, EdgesJoinWires, ReadsAreEdges, EdgesAreReads, IsRead, ReadsWire}
use Rattle.grc_solutions.proofs.Lists.{every_right, every_from, every_all, every_at, every_both, every_contained, every_listed}
use Rattle.grc_solutions.proofs.Rows.{Between}
use Rattle.grc_graph.proofs.Exports.{body_agrees, same_wire-true}
use Rattle.grc_solutions.proofs.Looked.{Looked, looked, statement_at}
use Rattle.grc_solutions.proofs.SameWires.{equation_of}
use Rattle.grc_solutions.proofs.Pairwise.{every_mapped, every_flat, listed_every}
use Rattle.grc_solutions.proofs.WireNames.{instance_every, equation_wires_are}
use Rattle.grc_solutions.proofs.Contexts.{In, Told, Asked, Context, row, looks, left_part, right_part}
use Rattle.grc_solutions.proofs.EndReads.{BranchCodes, end_reads, any_reads, every_cond}
use Rattle.grc_solutions.proofs.EdgeJoins.{Joins, edges_join}
use Rattle.grc_solutions.proofs.EdgeReads.{any_right, emission_read, IsStatus, Stands, EdgeRead, edges_read}
use Rattle.grc_solutions.proofs.EachContext.{each}

pub range_has : (a k o : ℕ) → a ≤ o → o < a + k → Contains (range_with_len a k) o
range_has a zero o l u = absurd (omega arith)
range_has a (suc k) o l u =
    ⊎_elim
    (λ e. (0, omega arith, omega arith))
    (λ e. Contains-append_right (a ∷ []) (range_with_len (a + 1) k) o (range_has (a + 1) k o e (omega arith)))
    (cases_lt o (a + 1))

-- an end has a code of the statement with its number
abbrev codes_fit : (ℕ → Term) → Wire → Bool
codes_fit g (Out s) = true
codes_fit g (Go n l) = true
codes_fit g (StatusOf n l) = true
codes_fit g (End n l k) = instance_codes (g n) l k

module _ (p : Program) (kernel : HasExitCodes p.body) where
  abbrev L : ℕ → List Layer
  L = body_layers p.body

  abbrev g : ℕ → Term
  g = statement_at p.body 0

  abbrev all : List Spot
  all = program_spots p

  abbrev B0 : Scope
  B0 = program_scope p.inputs (interface_count p)

  abbrev W : Wire → Type 0
  W w = Contains (program_wires p) w

  abbrev E : Between
  E u w = Contains (program_edges p) (edge u w)

  spot_wires : (x : Spot) → Contains all x → Every W (instance_wires x.statement x.path x.layer)
  spot_wires x c =
      every_contained W (instance_wires x.statement x.path x.layer)
      (λ w d.
      Contains-append_right (map Out (interface_of p).outgoing) (flat_map (λ y. instance_wires y.statement y.path y.layer) all) w
      (contains-flat_map (λ y. instance_wires y.statement y.path y.layer) all x w c d))

  spot_edges : (x : Spot) → Contains all x → Every (λ e. E e.from e.to) (edges_at x.scope x.statement x.path x.layer)
  spot_edges x c =
      every_contained (λ e. E e.from e.to) (edges_at x.scope x.statement x.path x.layer)
      (λ e d. contains-flat_map (λ y. edges_at y.scope y.statement y.path y.layer) all x e c d)

  all_looked : Every (Looked L g) all
  all_looked = looked L g B0 body_entry p.body 0 kernel (record { each = λ m l u. refl })

  spot_codes : Every (λ w. codes_fit g w ≡ true) (program_wires p)
  spot_codes =
      every-append (λ w. codes_fit g w ≡ true) (map Out (interface_of p).outgoing) (flat_map (λ y. instance_wires y.statement y.path y.layer) all)
      (every_mapped (λ w. codes_fit g w ≡ true) Out (interface_of p).outgoing (every_all _ _ (λ s. refl)))
      (every_flat (λ w. codes_fit g w ≡ true) (λ y. instance_wires y.statement y.path y.layer) all
      (every_from (Looked L g) (λ y. Every (λ w. codes_fit g w ≡ true) (instance_wires y.statement y.path y.layer)) all
      (λ y h.
      instance_every (λ w. codes_fit g w ≡ true) y.statement y.path y.layer refl refl
      (λ k u e. subst (λ t. instance_codes t y.layer k ≡ true) (sym h) e))
      all_looked))

  told : Told g all W E
  told = record {
    wires = spot_wires;
    edges = spot_edges;
    codes = codes;
  }
    where
      codes : (c : ℕ) (l : Layer) (k : ℕ) → W (End c l k) → instance_codes (g c) l k ≡ true
      codes c l k w = every_at (λ u. codes_fit g u ≡ true) (program_wires p) spot_codes (End c l k) w

  top : Context L g all W E told (body_liveness p.body) B0 body_entry p.body 0
  top = record {
    kernel = kernel;
    agrees = body_agrees p.body;
    low = λ r i. ⊎_elim (λ e. omega arith) (λ e. absurd e) i;
    above = record { each = λ s b e. absurd (unbound s b e) };
    found = record { each = λ m l u. refl };
    within = λ y c. c;
    outgoing = λ s e. outgoing s e;
    bound = λ s b l e i. absurd (unbound s b e);
    entry = entered;
  }
    where
      unbound : (s b : ℕ) → B0 s ≡ BoundAt b → ⊥
      unbound s b =
          cond_both (ltb s p.inputs) Entering (cond (ltb s (interface_count p)) Outgoing Unbound) (λ x. x ≡ BoundAt b → ⊥) (λ h e. cc)
          (λ h. cond_both (ltb s (interface_count p)) Outgoing Unbound (λ x. x ≡ BoundAt b → ⊥) (λ i e. cc) (λ i e. cc))

      outgoing : (s : ℕ) → B0 s ≡ Outgoing → W (Out s)
      outgoing s =
          cond_both (ltb s p.inputs) Entering (cond (ltb s (interface_count p)) Outgoing Unbound) (λ x. x ≡ Outgoing → W (Out s))
          (λ h e. absurd (let i : ⊥ = cc in i))
          (λ h.
          cond_both (ltb s (interface_count p)) Outgoing Unbound (λ x. x ≡ Outgoing → W (Out s))
          (λ i e.
          let low = ltb-false s p.inputs h in
          let high = ltb-true s (interface_count p) i in
          Contains-append_left (map Out (interface_of p).outgoing) _ (Out s)
          (contains-map Out (interface_of p).outgoing s (range_has p.inputs (outgoing_count p) s low (omega (arith, high)))))
          (λ i e. absurd (let j : ⊥ = cc in j)))

      entered : (l : Layer) → In (body_liveness p.body) l → ReadsOnly (λ u. Asked W E u (Go 0 l)) (body_entry l)
      entered Resumed i = tt
      entered (Started r) i = tt

  joins : Every (λ x. Every (Joins L g all W E told) (edges_at x.scope x.statement x.path x.layer)) all
  joins =
      each L g all W E told (λ x. Every (Joins L g all W E told) (edges_at x.scope x.statement x.path x.layer))
      (λ a B f t n c l i. edges_join L g all W E told c l i) (body_liveness p.body) B0 body_entry p.body 0 top

  pub edges_are_joined : Every (λ e. W e.from × W e.to) (program_edges p)
  edges_are_joined = every_flat (λ e. W e.from × W e.to) (λ x. edges_at x.scope x.statement x.path x.layer) all joins

  -- ---- what the equations of an instance read

  pub record ReadsAt (x : Spot) : Type 0 where
    pub entry : ReadsOnly (λ u. Asked W E u (Go x.path x.layer)) x.entry
    pub ends : (k : ℕ) → instance_codes x.statement x.layer k ≡ true →
        ReadsOnly (λ u. Asked W E u (End x.path x.layer k)) (end_formula x.scope x.statement x.path x.layer k)

  branch_codes : {a : Liveness} {B : Scope} {f : Layer → Formula} {t : Term} {n : ℕ} → Context L g all W E told a B f t n → (l : Layer) → BranchCodes W E t n l
  branch_codes {a} {B} {f} {t} {n} c l = go t c
    where
      go : (t : Term) → Context L g all W E told a B f t n → BranchCodes W E t n l
      go (Par x y) d = (
        λ k w. subst (λ z. instance_codes z l k ≡ true) (looks L g all W E told (left_part L g all W E told d)) (told.codes (n + 1) l k w),
        λ k w. subst (λ z. instance_codes z l k ≡ true) (looks L g all W E told (right_part L g all W E told d)) (told.codes (n + 1 + statement_count x) l k w),
      )
      go _ d = tt

  reads : Every ReadsAt all
  reads =
      each L g all W E told ReadsAt
      (λ a B f t n c l i. record {
        entry = c.entry l i;
        ends = λ k e. end_reads W E B t n l k c.kernel (row L g all W E told c l i) (branch_codes c l) e;
      })
      (body_liveness p.body) B0 body_entry p.body 0 top

  -- an emission has an edge to the status wire
  emission_edge : (w : Wire) (B : Scope) (t : Term) (n : ℕ) (l : Layer) → emits_on w t B l ≡ true → Every (λ e. E e.from e.to) (edges_at B t n l) → E (Go n l) w
  emission_edge w B (Emit s) n l e h =
      go (status_wire (B s) s l) e (every_right (λ x. E x.from x.to) (go_to_ends (instance_codes (Emit s) l) n l)
      (to_status (Go n l) (status_wire (B s) s l)) h)
    where
      go : (o : Option Wire) → is_wire o w ≡ true → Every (λ x. E x.from x.to) (to_status (Go n l) o) → E (Go n l) w
      go None i k = absurd (false≢true i)
      go (Some v) i k = subst (λ x. E (Go n l) x) (same_wire-true v w i) k.0
  emission_edge w B _ n l e h = absurd (false≢true e)

  emission_reads : (w : Wire) (xs : List Spot) → Every (λ x. Every (λ e. E e.from e.to) (edges_at x.scope x.statement x.path x.layer)) xs →
      Every (ReadsOnly (λ u. Asked W E u w)) (emissions w xs)
  emission_reads w [] h = tt
  emission_reads w (x ∷ xs) h =
      cond_both (emits_on w x.statement x.scope x.layer) (Value (Go x.path x.layer) ∷ emissions w xs) (emissions w xs)
      (λ fs. Every (ReadsOnly (λ u. Asked W E u w)) fs)
      (λ e. ((λ i. emission_edge w x.scope x.statement x.path x.layer e h.0), emission_reads w xs h.1))
      (λ e. emission_reads w xs h.1)

  all_emissions : (w : Wire) → Every (ReadsOnly (λ u. Asked W E u w)) (emissions w all)
  all_emissions w = emission_reads w all (every_contained (λ x. Every (λ e. E e.from e.to) (edges_at x.scope x.statement x.path x.layer)) all spot_edges)

  abbrev Read : Equation → Type 0
  Read e = ReadsOnly (λ u. Asked W E u e.wire) e.formula

  status_reads : (t : Term) (n : ℕ) (l : Layer) → Every Read (instance_status all t n l)
  status_reads (Local s x) n l = (any_reads (λ u. Asked W E u (StatusOf n l)) (emissions (StatusOf n l) all) (all_emissions (StatusOf n l)), tt)
  status_reads _ n l = tt

  instance_reads : (x : Spot) → ReadsAt x → Every Read (instance_equations all x)
  instance_reads x h = (
    h.entry,
    every-append Read (instance_status all x.statement x.path x.layer) _ (status_reads x.statement x.path x.layer)
        (every_mapped Read (λ k. record { wire = End x.path x.layer k; formula = end_formula x.scope x.statement x.path x.layer k })
        (listed (instance_codes x.statement x.layer))
        (listed_every _ (instance_codes x.statement x.layer) (λ k u e. h.ends k e))),
  )

  output_reads : (s : ℕ) → Read (output_equation (given_count p) all s)
  output_reads s =
      let given = cond (ltb s (given_count p)) (Input s ∷ []) [] in
      any_reads (λ u. Asked W E u (Out s)) (given ++ emissions (Out s) all)
      (every-append (ReadsOnly (λ u. Asked W E u (Out s))) given (emissions (Out s) all)
      (every_cond (ReadsOnly (λ u. Asked W E u (Out s))) (ltb s (given_count p)) (Input s ∷ []) (λ e. (tt, tt)))
      (all_emissions (Out s)))

  pub equations_read : Every Read (equations (given_count p) (interface_of p).outgoing all)
  equations_read =
      every-append Read (map (output_equation (given_count p) all) (interface_of p).outgoing) (flat_map (instance_equations all) all)
      (every_mapped Read (output_equation (given_count p) all) (interface_of p).outgoing (every_all _ _ output_reads))
      (every_flat Read (instance_equations all) all (every_from ReadsAt (λ x. Every Read (instance_equations all x)) all instance_reads reads))

  -- ---- each edge is read

  abbrev es : List Equation
  es = equations (given_count p) (interface_of p).outgoing all

  abbrev Is : Wire → Formula → Type 0
  Is w f = Contains es (record { wire = w; formula = f })

  of_instance : (x : Spot) (e : Equation) → Contains all x → Contains (instance_equations all x) e → Contains es e
  of_instance x e c d =
      Contains-append_right (map (output_equation (given_count p) all) (interface_of p).outgoing) (flat_map (instance_equations all) all) e
      (contains-flat_map (instance_equations all) all x e c d)

  ends_stand : (x : Spot) → Contains all x → (k : ℕ) → k < 64 → instance_codes x.statement x.layer k ≡ true →
      Is (End x.path x.layer k) (end_formula x.scope x.statement x.path x.layer k)
  ends_stand x c k u h =
      let own : ℕ → Equation = λ k. record { wire = End x.path x.layer k; formula = end_formula x.scope x.statement x.path x.layer k } in
      let codes = listed (instance_codes x.statement x.layer) in
      let status = instance_status all x.statement x.path x.layer in
      of_instance x (own k) c
      (Contains-append_right (record { wire = Go x.path x.layer; formula = x.entry } ∷ []) (status ++ map own codes) (own k)
      (Contains-append_right status (map own codes) (own k)
      (contains-map own codes k
      (every_listed (λ j. Contains codes j) (instance_codes x.statement x.layer) (every_contained (λ j. Contains codes j) codes (λ j d. d)) k u h))))

  -- the equation of a status wire reads each emission on it
  abbrev Shows : Equation → Type 0
  Shows q = IsStatus q.wire → (x : Spot) → Contains all x → emits_on q.wire x.statement x.scope x.layer ≡ true → IsRead (Go x.path x.layer) q.formula

  status_shows : (t : Term) (n : ℕ) (l : Layer) → Every Shows (instance_status all t n l)
  status_shows (Local s y) n l = ((λ i x c e. emission_read (StatusOf n l) x all c e), tt)
  status_shows _ n l = tt

  instance_shows : (x : Spot) → Every Shows (instance_equations all x)
  instance_shows x = (
    λ i. absurd i,
    every-append Shows (instance_status all x.statement x.path x.layer) _ (status_shows x.statement x.path x.layer)
        (every_mapped Shows (λ k. record { wire = End x.path x.layer k; formula = end_formula x.scope x.statement x.path x.layer k })
        (listed (instance_codes x.statement x.layer)) (every_all _ _ (λ k i. absurd i))),
  )

  output_shows : (s : ℕ) → Shows (output_equation (given_count p) all s)
  output_shows s i x c e =
      any_right (Go x.path x.layer) (cond (ltb s (given_count p)) (Input s ∷ []) []) (emissions (Out s) all) (emission_read (Out s) x all c e)

  equations_show : Every Shows es
  equations_show =
      every-append Shows (map (output_equation (given_count p) all) (interface_of p).outgoing) (flat_map (instance_equations all) all)
      (every_mapped Shows (output_equation (given_count p) all) (interface_of p).outgoing (every_all _ _ output_shows))
      (every_flat Shows (instance_equations all) all (every_all _ all instance_shows))

  stands : Stands all W Is
  stands = record {
    go = λ x c. of_instance x (record { wire = Go x.path x.layer; formula = x.entry }) c (0, omega arith, refl);
    ends = ends_stand;
    status = status;
  }
    where
      status : (x : Spot) → Contains all x → (w : Wire) → W w → IsStatus w → emits_on w x.statement x.scope x.layer ≡ true →
          (f : Formula) × Is w f × IsRead (Go x.path x.layer) f
      status x c w v i e =
          let q = equation_of es w (subst (λ ws. Contains ws w) (sym (equation_wires_are (given_count p) (interface_of p).outgoing all)) v) in (
            q.0.formula,
            subst (λ u. Contains es (record { wire = u; formula = q.0.formula })) q.2 q.1,
            every_at Shows es equations_show q.0 q.1 (subst IsStatus (sym q.2) i) x c
                (subst (λ u. emits_on u x.statement x.scope x.layer ≡ true) (sym q.2) e),
          )

  abbrev ReadAt : Spot → Type 0
  ReadAt x = Every (EdgeRead L g all W E told Is stands) (edges_at x.scope x.statement x.path x.layer)

  all_read : Every ReadAt all
  all_read =
      each L g all W E told ReadAt (λ a B f t n c l i. edges_read L g all W E told Is stands c l i) (body_liveness p.body) B0 body_entry p.body 0 top

  pub edges_are_read : Every (λ e. ReadsWire es e.from e.to) (program_edges p)
  edges_are_read =
      every_from (λ e. (W e.from × W e.to) × EdgeRead L g all W E told Is stands e) (λ e. ReadsWire es e.from e.to) (program_edges p)
      (λ e h. let r = h.1 h.0.1 in record { formula = r.0; equation = r.1; reads = r.2 })
      (every_both (λ e. W e.from × W e.to) (EdgeRead L g all W E told Is stands) (program_edges p) edges_are_joined
      (every_flat (EdgeRead L g all W E told Is stands) (λ x. edges_at x.scope x.statement x.path x.layer) all all_read))

pub edges_are_reads_lem : EdgesAreReads
edges_are_reads_lem p kernel = all-of-every (λ e. ReadsWire (graph_of p).equations e.from e.to) (program_edges p) (edges_are_read p kernel)

pub edges_join_wires_lem : EdgesJoinWires
edges_join_wires_lem p kernel =
    all-of-every (λ e. Contains (program_wires p) e.from × Contains (program_wires p) e.to) (program_edges p) (edges_are_joined p kernel)

pub reads_are_edges_lem : ReadsAreEdges
reads_are_edges_lem p kernel =
    all-of-every (λ e. ReadsOnly (λ u. Contains (program_wires p) u → Contains (program_edges p) (edge u e.wire)) e.formula)
    (graph_of p).equations (equations_read p kernel)
