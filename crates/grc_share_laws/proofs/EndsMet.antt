-- In a solution of a program's graph: whether a member of an `end k` is true is what its shared equation gives.
use Rattle.std.proofs.Common.{◌≡◌, ℕ, ◌+◌, ◌<◌, ◌≤◌, Bool, true, false, ◌&&◌, cond, List, refl, sym, ap, ◌∙◌, subst, ⊎_elim, arith}
use Rattle.std.proofs.lemmas.Bool.{both_ways, cases_Bool, false≢true, false_from_ne_true}
use Rattle.base_types.specs.declared.place.Span.{Span}
use Rattle.est_kernel.specs.Plain.{Program}
use Rattle.est_kernel.proofs.Exports.{statement_count-pos}
use Rattle.est_kernel.specs.Preorder.{statement_count}
use Rattle.est_kernel.specs.Terms.{Term, Nothing, Pause, Emit, Exit, Present, Suspend, Seq, Loop, Par, Trap, Local, Awake}
use Rattle.grc_graph.specs.Equations.{end_formula}
use Rattle.grc_graph.specs.GraphRuns.{formula_value, graph_of}
use Rattle.grc_graph.specs.Layers.{Layer, Resumed, Started, Liveness}
use Rattle.grc_graph.specs.Readings.{Valuation}
use Rattle.grc_graph.specs.Residuals.{holds}
use Rattle.grc_graph.specs.Rows.{Row, row_at, program_rows}
use Rattle.grc_graph.specs.Scopes.{Scope}
use Rattle.grc_graph.specs.Statements.{Entry, Second, Looped}
use Rattle.grc_graph.specs.Walk.{State}
use Rattle.grc_graph.specs.Wires.{Go, End, instance_codes}
use Rattle.grc_graph.proofs.Exports.{LiveAt, length-program_rows, length-rows, program_placed}
use Rattle.grc_solutions_laws.specs.GraphWalks.{selected_of}
use Rattle.grc_share.specs.SharedGraphs.{is_guarded}
use Rattle.grc_share.specs.SharedInstances.{body_sharing, one_instance}
use Rattle.grc_share.proofs.Exports.{Told, program_tells, live_row}
use Rattle.grc_share_laws.specs.SharedReactions.{some_member}
use Rattle.grc_share_laws.proofs.EndsAlike.{Ends, OwnStarts, resumed-alike, started-alike}
use Rattle.grc_share_laws.proofs.Equated.{end-met}
use Rattle.grc_share_laws.proofs.Excluded.{live}
use Rattle.grc_share_laws.proofs.Exclusion.{Descends, Restarts, Runs}
use Rattle.grc_share_laws.proofs.MemberValues.{end-alone, end-same, go-alone, go-some, one-instance-self}
use Rattle.grc_share_laws.proofs.PartsRunning.{PartsHere, parts_here}
use Rattle.grc_share_laws.proofs.Reached.{Kids, Parts, kids-of}
use Rattle.grc_share_laws.proofs.Running.{lives, restarts}
use Rattle.grc_share_laws.proofs.Settled.{Solution, binds, ended, idle-end, idle-go, idle-part, is-live, is-there, mfrom-end, mfrom-go, own-end, part-end}
use Rattle.grc_share_laws.proofs.Settled.{rooted-end}
use Rattle.grc_share_laws.proofs.Settled.{start-end, statement, test-settled}

-- a fact of each part
parts-all : (P : ℕ → Type 0) (t : Term) (n : ℕ) → ((c : ℕ) → P c) → Parts P t n
parts-all P Nothing n f = tt
parts-all P Pause n f = tt
parts-all P (Emit s) n f = tt
parts-all P (Exit k) n f = tt
parts-all P (Present e p q) n f = (f (n + 1), f (n + 1 + statement_count p))
parts-all P (Suspend e p) n f = f (n + 1)
parts-all P (Seq p q) n f = (f (n + 1), f (n + 1 + statement_count p))
parts-all P (Loop at p) n f = f (n + 1)
parts-all P (Par p q) n f = (f (n + 1), f (n + 1 + statement_count p))
parts-all P (Trap p) n f = f (n + 1)
parts-all P (Local s p) n f = f (n + 1)
parts-all P (Awake e p) n f = tt

-- a guard that holds
guard-true : (g a x : Bool) → a ≡ true → cond g (a && x) x ≡ x
guard-true true a x e = ap (λ b. b && x) e
guard-true false a x e = refl

-- a value that is false, under a guard that is false or that there is not
guard-false : (g a x : Bool) → a ≡ false → (g ≡ false → x ≡ false) → false ≡ cond g (a && x) x
guard-false true a x e f = sym (ap (λ b. b && x) e)
guard-false false a x e f = sym (f refl)

module _ (p : Program) (q : State) (event : List Bool) (V : Valuation) (F : Solution p q event V) where
  abbrev W : List Row
  W = program_rows p

  abbrev S : ℕ → Bool
  S = selected_of q

  -- the parts of a statement
  pub kids : (n : ℕ) → n < statement_count p.body
      → Kids (program_rows p) (row_at (program_rows p) n).live (row_at (program_rows p) n).scope (row_at (program_rows p) n).statement n
  kids n lt =
      let r = row_at W n in
      kids-of W r.live r.scope r.entry r.statement n (program_placed p n lt).stands (statement p q event V F n lt).codes

  pub parts : (n : ℕ) → n < statement_count p.body
      → PartsHere V (selected_of q) (row_at (program_rows p) n).live (row_at (program_rows p) n).statement n
  parts n lt =
      let r = row_at W n in
      let s = statement p q event V F n lt in
      parts_here V S (live_row W) (live p q event V F.kernel F.codes F.state F.walk) r.live r.statement n s.codes
      (lives W r.live r.scope r.statement n (kids n lt)) s.walked

  pub end-within : (n : ℕ) → n < statement_count p.body → n + statement_count (row_at (program_rows p) n).statement ≤ statement_count p.body
  end-within n lt =
      let r = row_at W n in
      omega (arith, (program_placed p n lt).stands.within, length-rows r.live r.scope r.entry r.statement n, length-program_rows p)

  second-key : (m n : ℕ) → m < statement_count p.body → (row_at (program_rows p) m).entry ≡ Second n
      → (body_sharing p.body).root m ≡ (body_sharing p.body).resumed n
  second-key m n lt e =
      (subst (λ (x : Entry). Told (body_sharing p.body).root (body_sharing p.body).resumed m x) e (program_tells p F.kernel m lt)).above

  looped-key : (m n : ℕ) → m < statement_count p.body → (row_at (program_rows p) m).entry ≡ Looped n
      → (body_sharing p.body).root m ≡ (body_sharing p.body).resumed n
  looped-key m n lt e =
      (subst (λ (x : Entry). Told (body_sharing p.body).root (body_sharing p.body).resumed m x) e (program_tells p F.kernel m lt)).above

  -- a part that has a root of its own
  abbrev Rooted : ℕ → ℕ → Type 0
  Rooted c n = Restarts V c n × ((body_sharing p.body).root c ≡ (body_sharing p.body).resumed n)

  second-rooted : (a : Liveness) (B : Scope) (s t : Term) (n : ℕ) → Kids (program_rows p) a B (Seq s t) n → PartsHere V (selected_of q) a (Seq s t) n
      → n + statement_count (Seq s t) ≤ statement_count p.body → Rooted (n + 1 + statement_count s) n
  second-rooted a B s t n k w l =
      let m = n + 1 + statement_count s in (
        restarts W V S (holds S s (n + 1)) (holds S t m) m n w.1.0,
        second-key m n (omega (arith, l, statement_count-pos t)) (ap (λ (r : Row). r.entry) k.1),
      )

  looped-rooted : (a : Liveness) (B : Scope) (at : Span) (s : Term) (n : ℕ) → Kids (program_rows p) a B (Loop at s) n
      → PartsHere V (selected_of q) a (Loop at s) n → n + statement_count (Loop at s) ≤ statement_count p.body → Rooted (n + 1) n
  looped-rooted a B at s n k w l = (w.0, looped-key (n + 1) n (omega (arith, l, statement_count-pos s)) (ap (λ (r : Row). r.entry) k))

  -- a fact of each part, by how it runs
  pub ends-parts : (P : ℕ → Type 0) (a : Liveness) (B : Scope) (t : Term) (n : ℕ) → Kids (program_rows p) a B t n → PartsHere V (selected_of q) a t n
      → n + statement_count t ≤ statement_count p.body → ((c : ℕ) → Descends V c n → P c)
      → (is_guarded t ≡ true → (c : ℕ) → Restarts V c n → (body_sharing p.body).root c ≡ (body_sharing p.body).resumed n → P c) → Parts P t n
  ends-parts P a B Nothing n k w l f g = tt
  ends-parts P a B Pause n k w l f g = tt
  ends-parts P a B (Emit s) n k w l f g = tt
  ends-parts P a B (Exit c) n k w l f g = tt
  ends-parts P a B (Present e s t) n k w l f g = (f (n + 1) w.0.0, f (n + 1 + statement_count s) w.1.0)
  ends-parts P a B (Suspend e s) n k w l f g = f (n + 1) w.0
  ends-parts P a B (Seq s t) n k w l f g =
      let r = second-rooted a B s t n k w l in (f (n + 1) w.0.0, g refl (n + 1 + statement_count s) r.0 r.1)
  ends-parts P a B (Loop at s) n k w l f g = let r = looped-rooted a B at s n k w l in g refl (n + 1) r.0 r.1
  ends-parts P a B (Par s t) n k w l f g = (f (n + 1) w.0.0, f (n + 1 + statement_count s) w.1.0)
  ends-parts P a B (Trap s) n k w l f g = f (n + 1) w.0
  ends-parts P a B (Local u s) n k w l f g = f (n + 1) w.0
  ends-parts P a B (Awake e s) n k w l f g = tt

  own-starts : (P : ℕ → Type 0) (a : Liveness) (B : Scope) (t : Term) (n : ℕ) → Kids (program_rows p) a B t n → PartsHere V (selected_of q) a t n
      → n + statement_count t ≤ statement_count p.body
      → (is_guarded t ≡ true → (c : ℕ) → Restarts V c n → (body_sharing p.body).root c ≡ (body_sharing p.body).resumed n → P c) → OwnStarts P t n
  own-starts P a B Nothing n k w l g = tt
  own-starts P a B Pause n k w l g = tt
  own-starts P a B (Emit s) n k w l g = tt
  own-starts P a B (Exit c) n k w l g = tt
  own-starts P a B (Present e s t) n k w l g = tt
  own-starts P a B (Suspend e s) n k w l g = tt
  own-starts P a B (Seq s t) n k w l g = let r = second-rooted a B s t n k w l in g refl (n + 1 + statement_count s) r.0 r.1
  own-starts P a B (Loop at s) n k w l g = let r = looped-rooted a B at s n k w l in g refl (n + 1) r.0 r.1
  own-starts P a B (Par s t) n k w l g = tt
  own-starts P a B (Trap s) n k w l g = tt
  own-starts P a B (Local u s) n k w l g = tt
  own-starts P a B (Awake e s) n k w l g = tt

  -- the formula of an end, from the values of all members
  abbrev formula-worth : ℕ → Layer → ℕ → Bool
  formula-worth n l k =
      formula_value (graph_of p) q event (some_member p V)
      (end_formula (row_at (program_rows p) n).scope (row_at (program_rows p) n).statement n l k)

  -- and under its guard
  abbrev pub EndMet : ℕ → Layer → ℕ → Type 0
  EndMet n l k =
      some_member p V (End n l k)
      ≡ cond (is_guarded (row_at (program_rows p) n).statement)
      (some_member p V (Go n l)
      && formula_value (graph_of p) q event (some_member p V)
      (end_formula (row_at (program_rows p) n).scope (row_at (program_rows p) n).statement n l k))
      (formula_value (graph_of p) q event (some_member p V)
      (end_formula (row_at (program_rows p) n).scope (row_at (program_rows p) n).statement n l k))

  -- ---- what is resumed

  resumed-worth : (n k : ℕ) → LiveAt p n Resumed → instance_codes (row_at (program_rows p) n).statement Resumed k ≡ true
      → (is_guarded (row_at (program_rows p) n).statement ≡ true → Runs V n Resumed) → V (End n Resumed k) ≡ formula-worth n Resumed k
  resumed-worth n k at has runs =
      let r = row_at W n in
      let lt = at.within in
      end-met p F.kernel F.limits F.codes q event V F.solves n Resumed k at has
      ∙ resumed-alike (graph_of p) q event V (some_member p V) r.scope r.statement n k (statement p q event V F n lt).codes
      (sym (go-alone p V (is-there p q event V F) n))
      (parts-all (Ends (graph_of p) q event V (some_member p V) Resumed Resumed) r.statement n (λ c i. sym (end-alone p V (is-there p q event V F) c i)))
      (own-starts (λ c. Ends (graph_of p) q event V (some_member p V) (Started c) (Started c) c) r.live r.scope r.statement n (kids n lt) (parts n lt)
      (end-within n lt) (λ g c under key i. sym (start-end p q event V F c n i under key (runs g))))
      (λ e h. sym (test-settled p q event V F r.scope n Resumed (binds p q event V F n lt) h e))

  pub resumed-met : (n k : ℕ) → LiveAt p n Resumed → instance_codes (row_at (program_rows p) n).statement Resumed k ≡ true → EndMet n Resumed k
  resumed-met n k at has =
      let t = (row_at W n).statement in
      let alone = end-alone p V (is-there p q event V F) n k in
      let own = go-alone p V (is-there p q event V F) n in
      ⊎_elim
      (λ h. alone ∙ resumed-worth n k at has (λ g. h) ∙ sym (guard-true (is_guarded t) (some_member p V (Go n Resumed)) (formula-worth n Resumed k) (own ∙ h)))
      (λ h.
      let none = false_from_ne_true (V (End n Resumed k)) (λ e. both_ways (V (Go n Resumed)) h (ended p q event V F n Resumed k e)) in
      alone ∙ none
      ∙ guard-false (is_guarded t) (some_member p V (Go n Resumed)) (formula-worth n Resumed k) (own ∙ h)
      (λ f. sym (resumed-worth n k at has (λ g. absurd (both_ways (is_guarded t) f g))) ∙ none))
      (cases_Bool (V (Go n Resumed)))

  -- ---- what is started

  -- a member that runs
  started-runs : (n r s k : ℕ) → one_instance (body_sharing p.body) n (Started s) (Started r) ≡ true → Runs V n (Started s)
      → instance_codes (row_at (program_rows p) n).statement (Started s) k ≡ true → some_member p V (End n (Started r) k) ≡ formula-worth n (Started r) k
  started-runs n r s k one h has =
      let x = row_at W n in
      let at = is-live p q event V F n (Started s) h in
      let lt = at.within in
      let there = is-there p q event V F in
      sym (end-same p V there n (Started s) (Started r) k one) ∙ own-end p q event V F n (Started s) k h
      ∙ end-met p F.kernel F.limits F.codes q event V F.solves n (Started s) k at has
      ∙ started-alike (graph_of p) q event V (some_member p V) x.scope x.statement n s r k (statement p q event V F n lt).codes
      (h ∙ sym (mfrom-go p q event V F n (Started s) (Started r) one h))
      (ends-parts (Ends (graph_of p) q event V (some_member p V) (Started s) (Started r)) x.live x.scope x.statement n (kids n lt) (parts n lt)
      (end-within n lt)
      (λ c under i. sym (part-end p q event V F c n (Started s) i under h) ∙ end-same p V there c (Started s) (Started r) i one)
      (λ g c under key i. sym (rooted-end p q event V F c n (Started s) i under key h) ∙ end-same p V there c (Started s) (Started r) i one))

  -- none that runs
  started-idle : (n r k : ℕ) → LiveAt p n (Started r) → instance_codes (row_at (program_rows p) n).statement (Started r) k ≡ true
      → some_member p V (Go n (Started r)) ≡ false → is_guarded (row_at (program_rows p) n).statement ≡ false
      → V (End n (Started r) k) ≡ formula-worth n (Started r) k
  started-idle n r k at has f free =
      let x = row_at W n in
      let lt = at.within in
      end-met p F.kernel F.limits F.codes q event V F.solves n (Started r) k at has
      ∙ started-alike (graph_of p) q event V (some_member p V) x.scope x.statement n r r k (statement p q event V F n lt).codes
      (sym (idle-go p q event V F n (Started r) f))
      (ends-parts (Ends (graph_of p) q event V (some_member p V) (Started r) (Started r)) x.live x.scope x.statement n (kids n lt) (parts n lt)
      (end-within n lt)
      (λ c under i. sym (idle-part p q event V F c n (Started r) i under f))
      (λ g c under key i. absurd (both_ways (is_guarded x.statement) free g)))

  pub started-met : (n r k : ℕ) → LiveAt p n (Started r) → instance_codes (row_at (program_rows p) n).statement (Started r) k ≡ true → EndMet n (Started r) k
  started-met n r k at has =
      let t = (row_at W n).statement in
      ⊎_elim
      (λ h. let x = go-some p V n (Started r) h in
      running x.0 x.1 x.2 ∙ sym (guard-true (is_guarded t) (some_member p V (Go n (Started r))) (formula-worth n (Started r) k) h))
      (λ f.
      let none = idle-end p q event V F n (Started r) k f in
      none
      ∙ guard-false (is_guarded t) (some_member p V (Go n (Started r))) (formula-worth n (Started r) k) f
      (λ g. sym (started-idle n r k at has f g) ∙ false_from_ne_true (V (End n (Started r) k)) (λ e.
      both_ways (some_member p V (End n (Started r) k)) none
      (mfrom-end p q event V F n (Started r) (Started r) k (one-instance-self (body_sharing p.body) n (Started r)) e))))
      (cases_Bool (some_member p V (Go n (Started r))))
    where
      running : (j : Layer) → one_instance (body_sharing p.body) n j (Started r) ≡ true → V (Go n j) ≡ true
          → some_member p V (End n (Started r) k) ≡ formula-worth n (Started r) k
      running Resumed o v = absurd (false≢true o)
      running (Started s) o v = started-runs n r s k o v has
