-- In a state of a program, the values of members solve the equations of the shared wires.
use Rattle.std.proofs.Common.{◌≡◌, ℕ, ◌<◌, Bool, true, false, not, ◌&&◌, ◌||◌, ◌==◌, cond, List, [], ◌∷◌, ◌++◌, length, get_or, refl, sym, ap}
use Rattle.std.proofs.Common.{◌∙◌, subst}
use Rattle.std.proofs.Common.{⊎_elim, arith}
use Rattle.std.specs.Prelude.{All, Contains, filter, nat_lt, option_map}
use Rattle.std.specs.List.{list_any}
use Rattle.std.proofs.lemmas.Bool.{and_parts, both_ways, cases_Bool, cond-false, cond-true, false_from_ne_true}
use Rattle.std.proofs.lemmas.List.{get_or-map, length-map}
use Rattle.std.proofs.lemmas.List.Elements.{Contains-get_or}
use Rattle.est_kernel.specs.Plain.{Program, given_count, program_of}
use Rattle.est_kernel.specs.WellFormed.{IsKernel, KeepsLimits}
use Rattle.grc_graph.specs.declared.graph.Graph.{Graph}
use Rattle.grc_graph.specs.BuiltGraphs.{IsGraphOf}
use Rattle.grc_graph.specs.Equations.{Equation, end_formula, is_wire}
use Rattle.grc_graph.specs.Formulas.{Formula, Const, Boot, Input, Value, Selected, Upto, Kept, Held, Negation, Conjunction, Disjunction}
use Rattle.grc_graph.specs.GraphRuns.{SolvesGraph, formula_value, graph_of, program_spots, program_wires}
use Rattle.grc_graph.specs.Instances.{body_instances}
use Rattle.grc_graph.specs.Layers.{Layer, Resumed, Started, Liveness, same_layer}
use Rattle.grc_graph.specs.Nodes.{spot_node}
use Rattle.grc_graph.specs.Readings.{Valuation}
use Rattle.grc_graph.specs.Reads.{ReadsOnly}
use Rattle.grc_graph.specs.Rows.{live_in, program_rows, row_at, spot_at}
use Rattle.grc_graph.specs.Spots.{Spot}
use Rattle.grc_graph.specs.Walk.{State}
use Rattle.grc_graph.specs.Wires.{Wire, Out, Go, StatusOf, End, same_wire}
use Rattle.grc_graph.proofs.Exports.{IsEnd, IsGo, IsStatus, LiveAt, live_instance, wire_only, program_spots_by_row, same_layer-true, same_wire-self}
use Rattle.grc_graph.proofs.Exports.{same_wire-true, wire_there}
use Rattle.grc_share.specs.SharedGraphs.{emits_on, emitted_on, formula_for, go_value, has_own, is_guarded, is_least, renamed, shared_emissions}
use Rattle.grc_share.specs.SharedGraphs.{shared_equations, shared_formula}
use Rattle.grc_share.specs.SharedGraphs.{shared_graph}
use Rattle.grc_share.specs.SharedInstances.{body_sharing, key}
use Rattle.grc_share.specs.SharedWires.{shared_layer, shared_wire, shared_wires}
use Rattle.grc_share.proofs.Exports.{IsLive, named-one_wire, one_wire-named, wires_live, end-there, status-there, wire-twice}
use Rattle.grc_solutions.proofs.Exports.{unnamed}
use Rattle.grc_share_laws.specs.SharedReactions.{shared_values, some_member}
use Rattle.grc_share_laws.proofs.EndsMet.{EndMet, resumed-met, started-met}
use Rattle.grc_share_laws.proofs.Equated.{end-formula, go-formula}
use Rattle.grc_share_laws.proofs.GoMet.{entry-worth, resumed-go, started-go}
use Rattle.grc_share_laws.proofs.GraphReads.{Edged, reads-found}
use Rattle.base_facts.proofs.Tests.{same-tests}
use Rattle.grc_share_laws.proofs.Lists.{any-append, any-from, any-some, filter-has, filter-some, of-mapped, upto-same}
use Rattle.grc_share_laws.proofs.MemberValues.{member-from, member-some}
use Rattle.grc_share_laws.proofs.Settled.{Solution, is-there}
use Rattle.grc_share_laws.proofs.SharedThere.{equation-names, row_live, shared-itself, shared-there}
use Rattle.grc_share_laws.proofs.Statuses.{any-worth, named-live, out-met, status-met}

-- one list under two functions that agree on it
any-same : {X : Type 0} (f h : X → Bool) (xs : List X) → ((x : X) → Contains xs x → f x ≡ h x) → list_any f xs ≡ list_any h xs
any-same f h xs e =
    same-tests (list_any f xs) (list_any h xs)
    (λ a. let r = any-some f xs a in any-from h xs r.0 r.1 (sym (e r.0 r.1) ∙ r.2))
    (λ a. let r = any-some h xs a in any-from f xs r.0 r.1 (e r.0 r.1 ∙ r.2))

module _ (p : Program) (kernel : IsKernel p.body) (limits : KeepsLimits p.body) where
  -- the shared wire of a wire is there
  pub named-there : (w : Wire) → Contains (program_wires p) w → Contains (shared_wires p) (shared_wire (body_sharing p.body) w)
  named-there w c =
      filter-has (λ u. same_wire (shared_wire (body_sharing p.body) u) u) (program_wires p) (shared_wire (body_sharing p.body) w) (by w c)
      (subst (λ u. same_wire u (shared_wire (body_sharing p.body) w) ≡ true) (sym (wire-twice (body_sharing p.body) w))
      (same_wire-self (shared_wire (body_sharing p.body) w)))
    where
      status : (n : ℕ) (l : Layer) → Contains (program_wires p) (StatusOf n l) → (b : Bool)
          → (((body_sharing p.body).live n).resumed && (body_sharing p.body).resumed n == key (body_sharing p.body) n l) ≡ b
          → Contains (program_wires p) (StatusOf n (cond b Resumed (shared_layer (body_sharing p.body) n l)))
      status n l c true e =
          let x = wire_only p kernel IsStatus n l c in
          wire_there p kernel IsStatus n Resumed tt (record {
            within = x.within;
            live = subst (λ (a : Liveness). a.resumed ≡ true) (sym (row_live p kernel limits n x.within)) (and_parts
                ((body_sharing p.body).live n).resumed _ e).0;
            has = x.has;
          })
      status n l c false e = status-there p kernel n l c

      by : (w : Wire) → Contains (program_wires p) w → Contains (program_wires p) (shared_wire (body_sharing p.body) w)
      by (Out s) c = c
      by (Go n l) c =
          let x = wire_only p kernel IsGo n l c in
          let same = row_live p kernel limits n x.within in
          wire_there p kernel IsGo n (shared_layer (body_sharing p.body) n l) tt (record {
            within = x.within;
            live = subst (λ (a : Liveness). live_in a (shared_layer (body_sharing p.body) n l) ≡ true) (sym same)
                (named-live (body_sharing p.body) n l (subst (λ (a : Liveness). live_in a l ≡ true) same x.live));
            has = tt;
          })
      by (StatusOf n l) c =
          subst (λ j. Contains (program_wires p) (StatusOf n j)) refl
          (status n l c (((body_sharing p.body).live n).resumed && (body_sharing p.body).resumed n == key (body_sharing p.body) n l) refl)
      by (End n l k) c = end-there p kernel limits n l k c

  module _ (V : Valuation) (there : (w : Wire) → V w ≡ true → Contains (program_wires p) w) where
    -- wires that are one have members with one value
    member-same : (u w : Wire) → IsLive (body_sharing p.body) u → IsLive (body_sharing p.body) w
        → shared_wire (body_sharing p.body) u ≡ shared_wire (body_sharing p.body) w → some_member p V u ≡ some_member p V w
    member-same u w a b e = same-tests (some_member p V u) (some_member p V w) (to u w a b e) (to w u b a (sym e))
      where
        to : (u w : Wire) → IsLive (body_sharing p.body) u → IsLive (body_sharing p.body) w
            → shared_wire (body_sharing p.body) u ≡ shared_wire (body_sharing p.body) w → some_member p V u ≡ true → some_member p V w ≡ true
        to u w a b e h =
            let r = member-some p V u h in
            let x = wires_live p kernel r.0 (there r.0 r.2) in
            member-from p V there r.0 w (named-one_wire (body_sharing p.body) r.0 w x (one_wire-named (body_sharing p.body) r.0 u x r.1 a ∙ e) b) r.2

    -- the value of a shared wire
    pub value-on : (u : Wire) → Contains (shared_wires p) u → shared_values p V u ≡ some_member p V u
    value-on u c =
        cond-true (list_any (same_wire u) (shared_wires p)) (some_member p V u) false (any-from (same_wire u) (shared_wires p) u c (same_wire-self u))

    -- the value of the shared wire of a wire
    pub value-named : (u : Wire) → IsLive (body_sharing p.body) u → shared_values p V (shared_wire (body_sharing p.body) u) ≡ some_member p V u
    value-named u alive =
        let w = shared_wire (body_sharing p.body) u in
        ⊎_elim
        (λ e.
        let r = any-some (same_wire w) (shared_wires p) e in
        let c : Contains (shared_wires p) w = subst (λ x. Contains (shared_wires p) x) (sym (same_wire-true w r.0 r.2)) r.1 in
        value-on w c
        ∙ member-same w u (wires_live p kernel w (shared-there p kernel limits w c)) alive (wire-twice (body_sharing p.body) u))
        (λ e.
        cond-false (list_any (same_wire w) (shared_wires p)) (some_member p V w) false e
        ∙ sym (false_from_ne_true (some_member p V u) (λ h.
        let r = member-some p V u h in
        let i = there r.0 r.2 in
        let same = one_wire-named (body_sharing p.body) r.0 u (wires_live p kernel r.0 i) r.1 alive in
        both_ways (list_any (same_wire w) (shared_wires p)) e
        (any-from (same_wire w) (shared_wires p) w (subst (λ x. Contains (shared_wires p) x) same (named-there r.0 i)) (same_wire-self w)))))
        (cases_Bool (list_any (same_wire w) (shared_wires p)))

    -- the value of a renamed formula
    pub value-renamed : (q : State) (event : List Bool) (P : Wire → Type 0) → ((u : Wire) → P u → IsLive (body_sharing p.body) u) → (f : Formula)
        → ReadsOnly P f
        → formula_value (shared_graph p) q event (shared_values p V) (renamed (body_sharing p.body) f)
        ≡ formula_value (graph_of p) q event (some_member p V) f
    value-renamed q event P live (Const b) h = refl
    value-renamed q event P live Boot h = refl
    value-renamed q event P live (Input s) h = refl
    value-renamed q event P live (Value w) h = value-named w (live w h)
    value-renamed q event P live (Selected n) h = refl
    value-renamed q event P live (Upto n l k) h =
        upto-same (λ j. shared_values p V (End n (shared_layer (body_sharing p.body) n l) j)) (λ j. some_member p V (End n l j))
        (λ j. value-named (End n l j) (live (End n l 0) (h 0 (omega arith)))) k
    value-renamed q event P live (Kept n l) h = absurd h
    value-renamed q event P live (Held n l) h = absurd h
    value-renamed q event P live (Negation a) h = ap not (value-renamed q event P live a h)
    value-renamed q event P live (Conjunction a b) h =
        ap (λ x. x && formula_value (shared_graph p) q event (shared_values p V) (renamed (body_sharing p.body) b)) (value-renamed q event P live a h.0)
        ∙ ap (λ x. formula_value (graph_of p) q event (some_member p V) a && x) (value-renamed q event P live b h.1)
    value-renamed q event P live (Disjunction a b) h =
        ap (λ x. x || formula_value (shared_graph p) q event (shared_values p V) (renamed (body_sharing p.body) b)) (value-renamed q event P live a h.0)
        ∙ ap (λ x. formula_value (graph_of p) q event (some_member p V) a || x) (value-renamed q event P live b h.1)

-- ---- a graph

module _ (g : Graph) (built : IsGraphOf g (program_of g.program)) (q : State) (event : List Bool) (V : Valuation)
    (F : Solution (program_of g.program) q event V) where
  abbrev p : Program
  p = program_of g.program

  abbrev U : Valuation
  U = shared_values (program_of g.program) V

  abbrev J : Valuation
  J = some_member (program_of g.program) V

  -- the value of a formula of the shared wires
  abbrev worth : Formula → Bool
  worth f = formula_value (shared_graph (program_of g.program)) q event (shared_values (program_of g.program) V) f

  here : (w : Wire) → V w ≡ true → Contains (program_wires (program_of g.program)) w
  here = is-there (program_of g.program) q event V F

  formula-of : Wire → Formula
  formula-of u = formula_for (graph_of (program_of g.program)).equations u

  -- the renamed formula of a wire
  renamed-worth : (u : Wire) → Contains (program_wires (program_of g.program)) u
      → formula_value (shared_graph (program_of g.program)) q event (shared_values (program_of g.program) V)
      (renamed (body_sharing (program_of g.program).body) (formula_for (graph_of (program_of g.program)).equations u))
      ≡ formula_value (graph_of (program_of g.program)) q event (some_member (program_of g.program) V)
      (formula_for (graph_of (program_of g.program)).equations u)
  renamed-worth u c =
      value-renamed p F.kernel F.limits V here q event (λ w. Edged g built u w × IsLive (body_sharing p.body) w) (λ w h. h.1)
      (formula_for (graph_of p).equations u) (reads-found g built u c)

  -- the emissions on a shared wire
  emissions-same : (w : Wire)
      → list_any (λ a. formula_value (graph_of (program_of g.program)) q event (some_member (program_of g.program) V) a) (shared_emissions
      (program_of g.program) w)
      ≡ list_any (λ a. formula_value (shared_graph (program_of g.program)) q event (shared_values (program_of g.program) V) a)
      (shared_emissions (program_of g.program) w)
  emissions-same w =
      any-same (λ a. formula_value (graph_of p) q event J a) (λ a. formula_value (shared_graph p) q event U a) (shared_emissions p w)
      (of-mapped (λ a. formula_value (graph_of p) q event J a ≡ formula_value (shared_graph p) q event U a) go_value
      (filter (emits_on (body_sharing p.body) w) (program_spots p)) (λ x c.
      let f = filter-some (emits_on (body_sharing p.body) w) (program_spots p) x c in
      of-mapped (λ (y : Spot). is_least (body_sharing p.body) y ≡ true → J (Go y.path y.layer) ≡ U (Go y.path y.layer)) (spot_at (program_rows p))
      (body_instances p.body) (λ i d. go-named i.path i.layer (live_instance p i.path i.layer d)) x
      (subst (λ xs. Contains xs x) (program_spots_by_row p F.kernel) f.0)
      (and_parts (is_least (body_sharing p.body) x) (is_wire (option_map (shared_wire (body_sharing p.body)) (emitted_on (spot_node x))) w) f.1).0))
    where
      go-named : (n : ℕ) (l : Layer) → LiveAt (program_of g.program) n l → same_layer (shared_layer (body_sharing (program_of g.program).body) n l) l ≡ true
          → some_member (program_of g.program) V (Go n l) ≡ shared_values (program_of g.program) V (Go n l)
      go-named n l at least =
          let own = same_layer-true (shared_layer (body_sharing p.body) n l) l least in
          let there = wire_there p F.kernel IsGo n l tt (record { within = at.within; live = at.live; has = tt }) in
          sym (value-on p F.kernel F.limits V here (Go n l)
          (subst (λ j. Contains (shared_wires p) (Go n j)) own (named-there p F.kernel F.limits (Go n l) there)))

  -- the layer of a shared wire names its shared instance
  abbrev layer-of : Wire → Layer
  layer-of (Out s) = Resumed
  layer-of (Go n l) = l
  layer-of (StatusOf n l) = l
  layer-of (End n l k) = l

  abbrev root-of : Layer → ℕ
  root-of Resumed = 0
  root-of (Started r) = r

  -- each shared equation is met
  pub equation-met : (u : Wire) → Contains (shared_wires (program_of g.program)) u
      → some_member (program_of g.program) V u
      ≡ formula_value (shared_graph (program_of g.program)) q event (shared_values (program_of g.program) V)
      (shared_formula (program_of g.program) u (formula_for (graph_of (program_of g.program)).equations u))
  equation-met (Out s) c =
      let list = cond (nat_lt s (given_count p)) (Input s ∷ []) [] in
      out-met p q event V F s (shared-there p F.kernel F.limits (Out s) c)
      ∙ any-both list (shared_emissions p (Out s)) (given-same (nat_lt s (given_count p))) (emissions-same (Out s))
      ∙ sym (any-worth (shared_graph p) q event U (list ++ shared_emissions p (Out s)))
    where
      given-same : (b : Bool)
          → list_any (λ a. formula_value (graph_of (program_of g.program)) q event (some_member (program_of g.program) V) a) (cond b (Input s ∷ []) [])
          ≡ list_any (λ a. formula_value (shared_graph (program_of g.program)) q event (shared_values (program_of g.program) V) a) (cond b (Input s ∷ []) [])
      given-same true = refl
      given-same false = refl

      any-both : (xs ys : List Formula)
          → list_any (λ a. formula_value (graph_of (program_of g.program)) q event (some_member (program_of g.program) V) a) xs
          ≡ list_any (λ a. formula_value (shared_graph (program_of g.program)) q event (shared_values (program_of g.program) V) a) xs
          → list_any (λ a. formula_value (graph_of (program_of g.program)) q event (some_member (program_of g.program) V) a) ys
          ≡ list_any (λ a. formula_value (shared_graph (program_of g.program)) q event (shared_values (program_of g.program) V) a) ys
          → list_any (λ a. formula_value (graph_of (program_of g.program)) q event (some_member (program_of g.program) V) a) (xs ++ ys)
          ≡ list_any (λ a. formula_value (shared_graph (program_of g.program)) q event (shared_values (program_of g.program) V) a) (xs ++ ys)
      any-both xs ys e f =
          let h = λ (a : Formula). formula_value (graph_of p) q event J a in
          let k = λ (a : Formula). formula_value (shared_graph p) q event U a in
          any-append h xs ys ∙ ap (λ b. b || list_any h ys) e ∙ ap (λ b. list_any k xs || b) f ∙ sym (any-append k xs ys)
  equation-met (StatusOf n l) c =
      status-met p q event V F n l (shared-there p F.kernel F.limits (StatusOf n l) c) (shared-itself p F.kernel F.limits (StatusOf n l) c)
      ∙ emissions-same (StatusOf n l) ∙ sym (any-worth (shared_graph p) q event U (shared_emissions p (StatusOf n l)))
  equation-met (Go n Resumed) c =
      let i = shared-there p F.kernel F.limits (Go n Resumed) c in
      let x = wire_only p F.kernel IsGo n Resumed i in
      let at : LiveAt p n Resumed = record { within = x.within; live = x.live } in
      resumed-go p q event V F n at ∙ ap (λ f. formula_value (graph_of p) q event J f) (sym (go-formula p F.kernel F.limits F.codes n Resumed at))
      ∙ sym (renamed-worth (Go n Resumed) i)
  equation-met (Go n (Started r)) c =
      started-go p q event V F n r at (ap root-of (ap layer-of (shared-itself p F.kernel F.limits (Go n (Started r)) c)))
      ∙ by (has_own (body_sharing p.body) n r) refl
    where
      i : Contains (program_wires (program_of g.program)) (Go n (Started r))
      i = shared-there (program_of g.program) F.kernel F.limits (Go n (Started r)) c

      at : LiveAt (program_of g.program) n (Started r)
      at = let x = wire_only (program_of g.program) F.kernel IsGo n (Started r) i in record { within = x.within; live = x.live }

      one : (s : ℕ) → LiveAt (program_of g.program) n (Started s) → entry-worth (program_of g.program) q event V F n (Started s)
          ≡ formula_value (shared_graph (program_of g.program)) q event (shared_values (program_of g.program) V)
          (renamed (body_sharing (program_of g.program).body) (formula_for (graph_of (program_of g.program)).equations (Go n (Started s))))
      one s x =
          ap (λ f. formula_value (graph_of p) q event J f) (sym (go-formula p F.kernel F.limits F.codes n (Started s) x))
          ∙ sym (renamed-worth (Go n (Started s)) (wire_there p F.kernel IsGo n (Started s) tt (record { within = x.within; live = x.live; has = tt })))

      by : (b : Bool) → has_own (body_sharing (program_of g.program).body) n r ≡ b
          → cond b (entry-worth (program_of g.program) q event V F n (Started r) || entry-worth (program_of g.program) q event V F n (Started n))
          (entry-worth (program_of g.program) q event V F n (Started r))
          ≡ formula_value (shared_graph (program_of g.program)) q event (shared_values (program_of g.program) V)
          (cond b (Disjunction
          (renamed (body_sharing (program_of g.program).body) (formula_for (graph_of (program_of g.program)).equations (Go n (Started r))))
          (renamed (body_sharing (program_of g.program).body) (formula_for (graph_of (program_of g.program)).equations (Go n (Started n)))))
          (renamed (body_sharing (program_of g.program).body) (formula_for (graph_of (program_of g.program)).equations (Go n (Started r)))))
      by true e =
          let a = and_parts (list_any (λ s. s == n) ((body_sharing p.body).live n).roots) _ e in
          let own : LiveAt p n (Started n) = record {
            within = at.within;
            live = subst (λ (x : Liveness). list_any (λ s. s == n) x.roots ≡ true) (sym (row_live p F.kernel F.limits n at.within)) a.0;
          } in
          ap (λ b. b || entry-worth p q event V F n (Started n)) (one r at)
          ∙ ap (λ b. formula_value (shared_graph p) q event U (renamed (body_sharing p.body) (formula_for (graph_of p).equations (Go n (Started r)))) || b)
          (one n own)
      by false e = one r at
  equation-met (End n l k) c = met l c ∙ by (is_guarded (row_at (program_rows p) n).statement)
    where
      i : Contains (program_wires (program_of g.program)) (End n l k)
      i = shared-there (program_of g.program) F.kernel F.limits (End n l k) c

      met : (l : Layer) → Contains (shared_wires (program_of g.program)) (End n l k) → EndMet (program_of g.program) q event V F n l k
      met Resumed d =
          let x = wire_only p F.kernel (IsEnd k) n Resumed (shared-there p F.kernel F.limits (End n Resumed k) d) in
          resumed-met p q event V F n k (record { within = x.within; live = x.live }) x.has
      met (Started r) d =
          let x = wire_only p F.kernel (IsEnd k) n (Started r) (shared-there p F.kernel F.limits (End n (Started r) k) d) in
          started-met p q event V F n r k (record { within = x.within; live = x.live }) x.has

      formula : formula_value (graph_of (program_of g.program)) q event (some_member (program_of g.program) V)
          (end_formula (row_at (program_rows (program_of g.program)) n).scope (row_at (program_rows (program_of g.program)) n).statement n l k)
          ≡ formula_value (shared_graph (program_of g.program)) q event (shared_values (program_of g.program) V)
          (renamed (body_sharing (program_of g.program).body) (formula_for (graph_of (program_of g.program)).equations (End n l k)))
      formula =
          let x = wire_only p F.kernel (IsEnd k) n l i in
          ap (λ f. formula_value (graph_of p) q event J f)
          (sym (end-formula p F.kernel F.limits F.codes n l k (record { within = x.within; live = x.live }) x.has))
          ∙ sym (renamed-worth (End n l k) i)

      runs : some_member (program_of g.program) V (Go n l) ≡ shared_values (program_of g.program) V (Go n l)
      runs =
          let x = wire_only p F.kernel (IsEnd k) n l i in
          let own : shared_layer (body_sharing p.body) n l ≡ l = ap layer-of (shared-itself p F.kernel F.limits (End n l k) c) in
          let there = wire_there p F.kernel IsGo n l tt (record { within = x.within; live = x.live; has = tt }) in
          sym (value-on p F.kernel F.limits V here (Go n l)
          (subst (λ j. Contains (shared_wires p) (Go n j)) own (named-there p F.kernel F.limits (Go n l) there)))

      by : (b : Bool)
          → cond b (some_member (program_of g.program) V (Go n l)
          && formula_value (graph_of (program_of g.program)) q event (some_member (program_of g.program) V)
          (end_formula (row_at (program_rows (program_of g.program)) n).scope (row_at (program_rows (program_of g.program)) n).statement n l k))
          (formula_value (graph_of (program_of g.program)) q event (some_member (program_of g.program) V)
          (end_formula (row_at (program_rows (program_of g.program)) n).scope (row_at (program_rows (program_of g.program)) n).statement n l k))
          ≡ formula_value (shared_graph (program_of g.program)) q event (shared_values (program_of g.program) V)
          (cond b (Conjunction (Value (Go n l))
          (renamed (body_sharing (program_of g.program).body) (formula_for (graph_of (program_of g.program)).equations (End n l k))))
          (renamed (body_sharing (program_of g.program).body) (formula_for (graph_of (program_of g.program)).equations (End n l k))))
      by true =
          ap (λ b. b && formula_value (graph_of p) q event J (end_formula (row_at (program_rows p) n).scope (row_at (program_rows p) n).statement n l k)) runs
          ∙ ap (λ b. U (Go n l) && b) formula
      by false = formula

  -- the values of members solve the equations of the shared wires
  pub shared-solved : SolvesGraph (shared_graph (program_of g.program)) q event (shared_values (program_of g.program) V)
  shared-solved = record { met = met; others = others }
    where
      met : All (λ (e : Equation). shared_values (program_of g.program) V e.wire
          ≡ formula_value (shared_graph (program_of g.program)) q event (shared_values (program_of g.program) V) e.formula)
          (shared_equations (program_of g.program))
      met = λ i d l.
          let ws = shared_wires p in
          let equation : Wire → Equation = λ w. record { wire = w; formula = shared_formula p w (formula_for (graph_of p).equations w) } in
          let low : i < length ws = omega (arith, l, length-map ws equation) in
          let u = get_or ws i (Go 0 Resumed) in
          let c = Contains-get_or ws i (Go 0 Resumed) low in
          subst (λ (e : Equation). shared_values p V e.wire ≡ formula_value (shared_graph p) q event (shared_values p V) e.formula)
          (sym (get_or-map equation ws i (Go 0 Resumed) d low))
          (value-on p F.kernel F.limits V here u c ∙ equation-met u c)

      others : (w : Wire) → list_any (λ (e : Equation). same_wire w e.wire) (shared_equations (program_of g.program)) ≡ false
          → shared_values (program_of g.program) V w ≡ false
      others w e =
          cond-false (list_any (same_wire w) (shared_wires p)) (some_member p V w) false
          (subst (λ ws. list_any (same_wire w) ws ≡ false) (equation-names (λ w. shared_formula p w (formula_for (graph_of p).equations w)) (shared_wires p))
          (unnamed (shared_equations p) w e))
