-- In a state of a program: what is seen of the values of members, and the state behind them, are those of the solution.
use Rattle.std.proofs.Common.{◌≡◌, ℕ, Bool, true, false, ◌&&◌, ◌||◌, ◌==◌, List, [], ◌∷◌, ◌++◌, map, refl, sym, ap, ◌∙◌, subst, ⊎_elim}
use Rattle.std.proofs.Common.{arith}
use Rattle.std.specs.Prelude.{Contains}
use Rattle.std.specs.List.{flat_map, list_any}
use Rattle.std.proofs.Math.Path.{fun_ext}
use Rattle.std.proofs.lemmas.Bool.{and_from, and_parts, cond-true, eq-eqb, eqb-true, false≢true, or_cases}
use Rattle.est_kernel.specs.Plain.{Program, interface_count, interface_of}
use Rattle.est_kernel.proofs.Exports.{statement_count-pos}
use Rattle.grc_graph.specs.Equations.{kept_start, next_formula}
use Rattle.grc_graph.specs.Formulas.{Formula, Selected, Held, Conjunction}
use Rattle.grc_graph.specs.GraphRuns.{formula_value, graph_of, next_state, program_wires, shown}
use Rattle.grc_graph.specs.Layers.{Layer, Resumed, Started, Liveness, body_layers, body_liveness, layers_of, same_layer}
use Rattle.grc_graph.specs.Readings.{Valuation, kept_at}
use Rattle.grc_graph.specs.Rows.{Row, live_in, program_rows}
use Rattle.grc_graph.specs.Scopes.{program_scope}
use Rattle.grc_graph.specs.SelectionTrees.{body_leaves, selecting}
use Rattle.grc_graph.specs.Statements.{Body}
use Rattle.grc_graph.specs.Walk.{State, Selecting}
use Rattle.grc_graph.specs.Wires.{Wire, Out, Go, End, same_wire}
use Rattle.grc_graph.proofs.Exports.{in_layers, live_of, row_read, same_layer-self, same_layer-true, stands_whole}
use Rattle.grc_graph.specs.LoopKeys.{lasting}
use Rattle.grc_share.specs.SharedGraphs.{shared_graph, shared_next}
use Rattle.grc_share.specs.SharedInstances.{Sharing, body_sharing, one_instance}
use Rattle.grc_share.specs.SharedWires.{first_root, shared_layer, shared_layers, shared_wire, shared_wires}
use Rattle.grc_share.proofs.Exports.{one_instance-named}
use Rattle.grc_share_laws.specs.SharedReactions.{shared_values, some_member}
use Rattle.base_facts.proofs.Tests.{same-tests}
use Rattle.grc_share_laws.proofs.Lists.{any-append, any-from, any-some, filter-has, filter-some}
use Rattle.grc_share_laws.proofs.MemberValues.{end-some, go-some, one-instance-self}
use Rattle.grc_share_laws.proofs.NextMet.{cond-both, end-value, held-same, kept-same, out-value, own-value}
use Rattle.grc_share_laws.proofs.Settled.{Solution, ended, is-live, is-there, mfrom-go, settle}
use Rattle.grc_share_laws.proofs.SharedMet.{value-named}
use Rattle.grc_share_laws.proofs.SharedThere.{row_live}
use Rattle.grc_share_laws.proofs.Statuses.{any-worth, named-live, named-one}

module _ (p : Program) (q : State) (event : List Bool) where
  -- a start that is kept
  abbrev kept-from : Valuation → ℕ → Layer → Bool
  kept-from X n Resumed = false
  kept-from X n (Started r) = X (Go n (Started r)) && kept_at X p.body 0 n (Started r)

  list-starts : (X : Valuation) (n : ℕ) (ls : List Layer)
      → list_any (λ a. formula_value (graph_of p) q event X a) (flat_map (kept_start n) ls) ≡ list_any (kept-from X n) ls
  list-starts X n [] = refl
  list-starts X n (Resumed ∷ ls) = list-starts X n ls
  list-starts X n (Started r ∷ ls) = ap (λ b. (X (Go n (Started r)) && kept_at X p.body 0 n (Started r)) || b) (list-starts X n ls)

  -- a next formula
  next-worth : (X : Valuation) (n : ℕ) (ls : List Layer)
      → formula_value (graph_of p) q event X (next_formula n ls)
      ≡ (list_any (kept-from X n) ls
      || ((formula_value (graph_of p) q event X (Selected n) && formula_value (graph_of p) q event X (Held n Resumed)) || false))
  next-worth X n ls =
      let f = λ (a : Formula). formula_value (graph_of p) q event X a in
      let starts = flat_map (kept_start n) ls in
      let held = Conjunction (Selected n) (Held n Resumed) ∷ [] in
      any-worth (graph_of p) q event X (starts ++ held) ∙ any-append f starts held ∙ ap (λ b. b || list_any f held) (list-starts X n ls)

  -- the same of the shared graph, whose formulas see the ends of parallels as those that last
  list-lasting : (X : Valuation) (n : ℕ) (ls : List Layer)
      → list_any (λ a. formula_value (shared_graph p) q event X a) (flat_map (kept_start n) ls)
      ≡ list_any (kept-from (lasting (body_sharing p.body) X) n) ls
  list-lasting X n [] = refl
  list-lasting X n (Resumed ∷ ls) = list-lasting X n ls
  list-lasting X n (Started r ∷ ls) =
      ap (λ b. (X (Go n (Started r)) && kept_at (lasting (body_sharing p.body) X) p.body 0 n (Started r)) || b) (list-lasting X n ls)

  next-lasting : (X : Valuation) (n : ℕ) (ls : List Layer)
      → formula_value (shared_graph p) q event X (next_formula n ls)
      ≡ (list_any (kept-from (lasting (body_sharing p.body) X) n) ls
      || ((formula_value (shared_graph p) q event X (Selected n) && formula_value (shared_graph p) q event X (Held n Resumed)) || false))
  next-lasting X n ls =
      let f = λ (a : Formula). formula_value (shared_graph p) q event X a in
      let starts = flat_map (kept_start n) ls in
      let held = Conjunction (Selected n) (Held n Resumed) ∷ [] in
      any-worth (shared_graph p) q event X (starts ++ held) ∙ any-append f starts held ∙ ap (λ b. b || list_any f held) (list-lasting X n ls)

module _ (p : Program) (q : State) (event : List Bool) (V : Valuation) (F : Solution p q event V) where
  abbrev K : Sharing
  K = body_sharing p.body

  abbrev U : Valuation
  U = shared_values p V

  abbrev L : Valuation
  L = lasting (body_sharing p.body) (shared_values p V)

  here : (w : Wire) → V w ≡ true → Contains (program_wires p) w
  here = is-there p q event V F

  -- what the body keeps of a start that runs
  kept-whole : (n s : ℕ) → V (Go n (Started s)) ≡ true
      → kept_at V p.body 0 n (Started s)
      ≡ kept_at (lasting (body_sharing p.body) (shared_values p V)) p.body 0 n (shared_layer (body_sharing p.body) n (Started s))
  kept-whole n s h =
      let at = is-live p q event V F n (Started s) h in
      kept-same p q event V F n s at.within h (body_liveness p.body) (program_scope p.inputs (interface_count p)) Body p.body 0
      (stands_whole (program_rows p)) (omega arith) (omega (arith, at.within))

  live-too : (n s : ℕ) → V (Go n (Started s)) ≡ true → live_in ((body_sharing p.body).live n) (Started s) ≡ true
  live-too n s h =
      let at = is-live p q event V F n (Started s) h in
      subst (λ (a : Liveness). live_in a (Started s) ≡ true) (row_live p F.kernel F.limits n at.within) at.live

  starts-same : (n : ℕ)
      → list_any (kept-from p q event V n) (body_layers p.body n)
      ≡ list_any (kept-from p q event (lasting (body_sharing p.body) (shared_values p V)) n) (shared_layers (body_sharing p.body) n)
  starts-same n =
      same-tests (list_any (kept-from p q event V n) (body_layers p.body n)) (list_any (kept-from p q event L n) (shared_layers K n))
      (λ h. let r = any-some (kept-from p q event V n) (body_layers p.body n) h in to r.0 r.2)
      (λ h.
      let r = any-some (kept-from p q event L n) (shared_layers K n) h in
      let f = filter-some (λ l. same_layer (shared_layer K n l) l) (layers_of (K.live n)) r.0 r.1 in
      from r.0 (live_of (K.live n) r.0 f.0) (same_layer-true (shared_layer K n r.0) r.0 f.1) r.2)
    where
      to : (l : Layer) → kept-from p q event V n l ≡ true
          → list_any (kept-from p q event (lasting (body_sharing p.body) (shared_values p V)) n) (shared_layers (body_sharing p.body) n) ≡ true
      to Resumed h = absurd (false≢true h)
      to (Started s) h =
          let K = body_sharing p.body in
          let e = and_parts (V (Go n (Started s))) (kept_at V p.body 0 n (Started s)) h in
          let live = live-too n s e.0 in
          let j = shared_layer K n (Started s) in
          any-from (kept-from p q event (lasting K (shared_values p V)) n) (shared_layers K n) j
          (filter-has (λ l. same_layer (shared_layer K n l) l) (layers_of (K.live n)) j (in_layers (K.live n) j (named-live K n (Started s) live))
          (subst (λ z. same_layer z j ≡ true) (one_instance-named K n (Started s) j live (named-one K n (Started s))) (same_layer-self j)))
          (and_from (shared_values p V (Go n j)) (kept_at (lasting K (shared_values p V)) p.body 0 n j)
          (value-named p F.kernel F.limits V here (Go n (Started s)) live
          ∙ mfrom-go p q event V F n (Started s) (Started s) (one-instance-self K n (Started s)) e.0)
          (sym (kept-whole n s e.0) ∙ e.1))

      from : (l : Layer) → live_in ((body_sharing p.body).live n) l ≡ true → shared_layer (body_sharing p.body) n l ≡ l
          → kept-from p q event (lasting (body_sharing p.body) (shared_values p V)) n l ≡ true
          → list_any (kept-from p q event V n) (body_layers p.body n) ≡ true
      from Resumed live own h = absurd (false≢true h)
      from (Started r) live own h =
          let K = body_sharing p.body in
          let e = and_parts (shared_values p V (Go n (Started r))) (kept_at (lasting K (shared_values p V)) p.body 0 n (Started r)) h in
          let m = go-some p V n (Started r) (cond-both (list_any (same_wire (Go n (Started r))) (shared_wires p)) (some_member p V (Go n (Started r))) e.0).1 in
          by m.0 m.1 m.2 e.1
        where
          by : (j : Layer) → one_instance (body_sharing p.body) n j (Started r) ≡ true → V (Go n j) ≡ true
              → kept_at (lasting (body_sharing p.body) (shared_values p V)) p.body 0 n (Started r) ≡ true
              → list_any (kept-from p q event V n) (body_layers p.body n) ≡ true
          by Resumed o v k = absurd (false≢true o)
          by (Started s) o v k =
              let K = body_sharing p.body in
              let alive = live-too n s v in
              let same : shared_layer K n (Started s) ≡ Started r = one_instance-named K n (Started s) (Started r) alive o ∙ own in
              any-from (kept-from p q event V n) (body_layers p.body n) (Started s) (in_layers (K.live n) (Started s) alive)
              (and_from (V (Go n (Started s))) (kept_at V p.body 0 n (Started s)) v
              (kept-whole n s v ∙ subst (λ j. kept_at (lasting K (shared_values p V)) p.body 0 n j ≡ true) (sym same) k))

  next-same : (n : ℕ)
      → formula_value (graph_of p) q event V (next_formula n (body_layers p.body n))
      ≡ formula_value (shared_graph p) q event (shared_values p V) (next_formula n (shared_layers (body_sharing p.body) n))
  next-same n =
      let held = held-same p q event V F (body_liveness p.body) (program_scope p.inputs (interface_count p)) Body p.body 0 (stands_whole (program_rows p)) n in
      next-worth p q event V n (body_layers p.body n)
      ∙ ap (λ b. b || ((formula_value (graph_of p) q event V (Selected n) && formula_value (graph_of p) q event V (Held n Resumed)) || false)) (starts-same n)
      ∙ ap (λ b. list_any (kept-from p q event L n) (shared_layers K n) || ((formula_value (graph_of p) q event V (Selected n) && b) || false)) held
      ∙ sym (next-lasting p q event U n (shared_layers K n))

  bits-same : (ns : List ℕ)
      → map (λ a. formula_value (graph_of p) q event V a) (map (λ n. next_formula n (body_layers p.body n)) ns)
      ≡ map (λ a. formula_value (shared_graph p) q event (shared_values p V) a)
      (map (λ n. next_formula n (shared_layers (body_sharing p.body) n)) ns)
  bits-same [] = refl
  bits-same (n ∷ ns) = λ i. next-same n i ∷ bits-same ns i

  pub state-same : shared_next p q event (shared_values p V) ≡ next_state (graph_of p) q event V
  state-same = sym (ap (λ bits. Selecting (selecting (body_leaves p.body) bits)) (bits-same (body_leaves p.body)))

  -- ---- what is seen

  pub shown-same : shown (shared_graph p) (shared_values p V) ≡ shown (graph_of p) V
  shown-same =
      let outs : (λ s. U (Out s)) ≡ (λ s. V (Out s)) = fun_ext (out-value p q event V F) in
      let resumed = end-value p q event V F 0 1 in
      λ i. record { outputs = map (outs i) (interface_of p).outgoing; paused = resumed i || started i }
    where
      roots-here : ((body_sharing p.body).live 0).roots ≡ 0 ∷ []
      roots-here =
          ap (λ (a : Liveness). a.roots) (sym (row_live p F.kernel F.limits 0 (statement_count-pos p.body)))
          ∙ ap (λ (r : Row). r.live.roots)
          (row_read (program_rows p) (body_liveness p.body) (program_scope p.inputs (interface_count p)) Body p.body 0 (stands_whole (program_rows p))).same

      only : (s : ℕ) → V (Go 0 (Started s)) ≡ true → s ≡ 0
      only s h =
          ⊎_elim (λ e. sym (eqb-true 0 s e)) (λ e. absurd (false≢true e))
          (or_cases (0 == s) false (subst (λ rs. list_any (λ x. x == s) rs ≡ true) roots-here (live-too 0 s h)))

      own : shared_wire (body_sharing p.body) (End 0 (Started 0) 1) ≡ End 0 (Started 0) 1
      own =
          let c = (body_sharing p.body).root in
          ap (λ r. End 0 (Started r) 1)
          (ap (λ rs. first_root c rs 0) roots-here ∙ cond-true (c 0 == c 0) 0 0 (eq-eqb (c 0) (c 0) refl))

      alone : some_member p V (End 0 (Started 0) 1) ≡ V (End 0 (Started 0) 1)
      alone = settle p q event V F (End 0 (Started 0) 1) (λ h. let r = end-some p V 0 (Started 0) 1 h in by r.0 r.1 r.2)
        where
          by : (j : Layer) → one_instance (body_sharing p.body) 0 j (Started 0) ≡ true → V (End 0 j 1) ≡ true → V (End 0 (Started 0) 1) ≡ true
          by Resumed o v = absurd (false≢true o)
          by (Started s) o v = subst (λ y. V (End 0 (Started y) 1) ≡ true) (only s (ended p q event V F 0 (Started s) 1 v)) v

      started : shared_values p V (End 0 (Started 0) 1) ≡ V (End 0 (Started 0) 1)
      started = own-value p q event V F (End 0 (Started 0) 1) own alone
