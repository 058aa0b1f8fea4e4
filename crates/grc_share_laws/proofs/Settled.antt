-- In a solution of a program's graph: where an instance runs, no other member of its shared instance does, so what it reads
-- is what its shared instance reads.
use Rattle.std.proofs.Common.{◌≡◌, ℕ, ◌<◌, Bool, true, false, not, ◌&&◌, ◌||◌, List, refl, sym, ap, ◌∙◌, subst, ⊎_elim, arith}
use Rattle.std.specs.Prelude.{Contains}
use Rattle.std.proofs.lemmas.Bool.{both_ways, eqb-true, false≢true, false_from_ne_true}
use Rattle.est_kernel.specs.Plain.{Program}
use Rattle.est_kernel.specs.Preorder.{statement_count}
use Rattle.est_kernel.specs.Terms.{Expression, Tick, Sig, Not, And, Or}
use Rattle.est_kernel.specs.WellFormed.{IsKernel, KeepsLimits}
use Rattle.grc_graph.specs.Formulas.{Formula}
use Rattle.grc_graph.specs.GraphRuns.{SolvesGraph, formula_value, graph_of, program_wires}
use Rattle.grc_graph.specs.Layers.{Layer, Resumed, Started, layer_above}
use Rattle.grc_graph.specs.Readings.{Valuation}
use Rattle.grc_graph.specs.Rows.{live_in, program_rows, row_at}
use Rattle.grc_graph.specs.Scopes.{Scope, Binding, Entering, Outgoing, BoundAt, Unbound}
use Rattle.grc_graph.specs.Selected.{HasExitCodes, IsState}
use Rattle.grc_graph.specs.Spots.{status_formula, test_formula}
use Rattle.grc_graph.specs.Walk.{State}
use Rattle.grc_graph.specs.Wires.{Wire, Go, StatusOf, End}
use Rattle.grc_graph.proofs.Exports.{LiveAt, length-program_rows, program_placed}
use Rattle.grc_solutions_laws.specs.GraphWalks.{IsWalkOf, selected_of}
use Rattle.grc_share.specs.SharedInstances.{body_sharing, key, one_instance}
use Rattle.grc_share_laws.specs.SharedReactions.{some_member}
use Rattle.grc_share_laws.proofs.Around.{InsideOf, above-key, binder-around, live-at}
use Rattle.grc_share_laws.proofs.Excluded.{excluded, one_key}
use Rattle.grc_share_laws.proofs.Exclusion.{Descends, Restarts, Runs}
use Rattle.grc_share_laws.proofs.MemberValues.{end-from, end-some, go-from, one-instance-back, out-alone, settled-by, status-same, status-some}
use Rattle.grc_share_laws.proofs.Running.{each, end-runs, status-runs, there, RunsAt}

-- a solution of a program's graph, in a state of its body
pub record Solution (p : Program) (q : State) (event : List Bool) (V : Valuation) : Type 0 where
  pub kernel : IsKernel p.body
  pub limits : KeepsLimits p.body
  pub codes : HasExitCodes p.body
  pub state : IsState q p.body
  pub solves : SolvesGraph (graph_of p) q event V
  pub walk : IsWalkOf p q event V

module _ (p : Program) (q : State) (event : List Bool) (V : Valuation) (F : Solution p q event V) where
  -- the value of a formula
  abbrev pub val : Valuation → Formula → Bool
  val U a = formula_value (graph_of p) q event U a

  -- the members of a wire agree with it
  abbrev pub Settled : Wire → Type 0
  Settled u = some_member p V u ≡ V u

  abbrev pub In : ℕ → ℕ → Type 0
  In b m = InsideOf p q event V F.kernel F.codes F.state F.solves F.walk b m

  pub is-there : (w : Wire) → V w ≡ true → Contains (program_wires p) w
  is-there w h = there p q event V F.kernel F.codes F.state F.solves F.walk w h

  pub is-live : (m : ℕ) (l : Layer) → Runs V m l → LiveAt p m l
  is-live m l h = live-at p q event V F.kernel F.codes F.state F.solves F.walk m l h

  pub ended : (n : ℕ) (l : Layer) (k : ℕ) → V (End n l k) ≡ true → Runs V n l
  ended n l k h = end-runs p q event V F.kernel F.codes F.state F.solves F.walk n l k h

  pub statement : (n : ℕ) → n < statement_count p.body → RunsAt V (selected_of q) (row_at (program_rows p) n) n
  statement n h = each p q event V F.kernel F.codes F.state F.solves F.walk n h

  -- of the instances with one key no two run
  pub apart : (m : ℕ) (l j : Layer) → Runs V m l → Runs V m j → key (body_sharing p.body) m l ≡ key (body_sharing p.body) m j → l ≡ j
  apart m l j h g e = excluded p q event V F.kernel F.codes F.state F.walk m l j h g e

  pub one-runs : (m : ℕ) (l j : Layer) → Runs V m l → Runs V m j → one_instance (body_sharing p.body) m l j ≡ true → l ≡ j
  one-runs m l j h g e = apart m l j h g (one_key (body_sharing p.body) m l j e)

  pub mfrom-go : (n : ℕ) (j l : Layer) → one_instance (body_sharing p.body) n j l ≡ true → V (Go n j) ≡ true → some_member p V (Go n l) ≡ true
  mfrom-go n j l e v = go-from p V is-there n j l e v

  pub mfrom-end : (n : ℕ) (j l : Layer) (k : ℕ) → one_instance (body_sharing p.body) n j l ≡ true → V (End n j k) ≡ true → some_member p V (End n l k) ≡ true
  mfrom-end n j l k e v = end-from p V is-there n j l k e v

  pub settle : (u : Wire) → (some_member p V u ≡ true → V u ≡ true) → Settled u
  settle u h = settled-by p V is-there u h

  -- ---- an instance that runs

  pub own-end : (n : ℕ) (l : Layer) (k : ℕ) → Runs V n l → Settled (End n l k)
  own-end n l k h = settle (End n l k) (λ e.
      let r = end-some p V n l k e in
      subst (λ j. V (End n j k) ≡ true) (one-runs n r.0 l (ended n r.0 k r.2) h r.1) r.2)

  pub own-go : (n : ℕ) (l : Layer) → Runs V n l → Settled (Go n l)
  own-go n l h = settle (Go n l) (λ e. h)

  -- what no member of an instance runs in is false
  pub idle-go : (n : ℕ) (l : Layer) → some_member p V (Go n l) ≡ false → Settled (Go n l)
  idle-go n l f = settle (Go n l) (λ e. absurd (both_ways (some_member p V (Go n l)) f e))

  pub idle-end : (n : ℕ) (l : Layer) (k : ℕ) → some_member p V (Go n l) ≡ false → some_member p V (End n l k) ≡ false
  idle-end n l k f =
      false_from_ne_true (some_member p V (End n l k)) (λ e.
      let r = end-some p V n l k e in
      both_ways (some_member p V (Go n l)) f (mfrom-go n r.0 l r.1 (ended n r.0 k r.2)))

  -- ---- its parts

  pub part-end : (c n : ℕ) (l : Layer) (k : ℕ) → Descends V c n → Runs V n l → Settled (End c l k)
  part-end c n l k under h = settle (End c l k) (λ e.
      let r = end-some p V c l k e in
      subst (λ j. V (End c j k) ≡ true) (one-runs n r.0 l (under r.0 (ended c r.0 k r.2)) h r.1) r.2)

  pub idle-part : (c n : ℕ) (l : Layer) (k : ℕ) → Descends V c n → some_member p V (Go n l) ≡ false → Settled (End c l k)
  idle-part c n l k under f = settle (End c l k) (λ e.
      let r = end-some p V c l k e in
      absurd (both_ways (some_member p V (Go n l)) f (mfrom-go n r.0 l r.1 (under r.0 (ended c r.0 k r.2)))))

  -- a part with a root of its own: it is not started there, where the statement runs in a layer of its key
  own-clash : (c n : ℕ) (l : Layer) → (body_sharing p.body).root c ≡ (body_sharing p.body).resumed n → Runs V n l → Runs V n Resumed
      → one_instance (body_sharing p.body) n (Started c) l ≡ true → ⊥
  own-clash c n Resumed at h g e = false≢true e
  own-clash c n (Started s) at h g e =
      started-resumed s (apart n (Started s) Resumed h g (sym (eqb-true ((body_sharing p.body).root c) ((body_sharing p.body).root s) e) ∙ at))
    where
      started-resumed : (s : ℕ) → Started s ≡ Resumed → ⊥
      started-resumed s e = cc

  pub rooted-end : (c n : ℕ) (l : Layer) (k : ℕ) → Restarts V c n → (body_sharing p.body).root c ≡ (body_sharing p.body).resumed n → Runs V n l
      → Settled (End c l k)
  rooted-end c n l k under at h = settle (End c l k) (λ e.
      let r = end-some p V c l k e in
      ⊎_elim (λ g. subst (λ j. V (End c j k) ≡ true) (one-runs n r.0 l g h r.1) r.2)
      (λ x. absurd (own-clash c n l at h x.1 (subst (λ j. one_instance (body_sharing p.body) n j l ≡ true) x.0 r.1)))
      (under r.0 (ended c r.0 k r.2)))

  -- and where the statement is resumed, no other member of that start runs
  pub start-end : (c n k : ℕ) → Restarts V c n → (body_sharing p.body).root c ≡ (body_sharing p.body).resumed n → Runs V n Resumed
      → Settled (End c (Started c) k)
  start-end c n k under at h = settle (End c (Started c) k) (λ e.
      let r = end-some p V c (Started c) k e in
      ⊎_elim (λ g. absurd (own-clash c n r.0 at g h (one-instance-back (body_sharing p.body) n r.0 (Started c) r.1)))
      (λ x. subst (λ j. V (End c j k) ≡ true) x.0 r.2)
      (under r.0 (ended c r.0 k r.2)))

  -- ---- tests

  -- the binders of a statement's scope are around it
  abbrev pub Binds : Scope → ℕ → Type 0
  Binds B n = (s b : ℕ) → B s ≡ BoundAt b → (b < statement_count p.body) × In b n

  pub binds : (n : ℕ) → n < statement_count p.body → Binds (row_at (program_rows p) n).scope n
  binds n lt s b e = (
    omega (arith, ((program_placed p n lt).binders s b e).within, length-program_rows p),
    binder-around p q event V F.kernel F.codes F.state F.solves F.walk n s b lt e,
  )

  pub status-settled : (b n : ℕ) (l : Layer) → In b n → Runs V n l → Settled (StatusOf b (layer_above b l))
  status-settled b n l i h = settle (StatusOf b (layer_above b l)) (λ e.
      let r = status-some p V b (layer_above b l) e in
      let g = status-runs p q event V F.kernel F.codes F.state F.solves F.walk b r.0 r.2 in
      subst (λ j. V (StatusOf b j) ≡ true) (apart b r.0 (layer_above b l) g (i.runs l h) r.1) r.2)

  -- what a test reads, where the statement runs, is settled
  pub test-settled : (B : Scope) (n : ℕ) (l : Layer) → Binds B n → Runs V n l → (e : Expression)
      → val (some_member p V) (test_formula B e l) ≡ val V (test_formula B e l)
  test-settled B n l i h Tick = refl
  test-settled B n l i h (Sig s) = by (B s) refl
    where
      by : (x : Binding) → B s ≡ x → val (some_member p V) (status_formula x s l) ≡ val V (status_formula x s l)
      by Entering e = refl
      by Outgoing e = out-alone p V is-there s
      by (BoundAt b) e = status-settled b n l (i s b e).1 h
      by Unbound e = refl
  test-settled B n l i h (Not a) = ap not (test-settled B n l i h a)
  test-settled B n l i h (And a b) =
      ap (λ x. x && val (some_member p V) (test_formula B b l)) (test-settled B n l i h a)
      ∙ ap (λ x. val V (test_formula B a l) && x) (test-settled B n l i h b)
  test-settled B n l i h (Or a b) =
      ap (λ x. x || val (some_member p V) (test_formula B b l)) (test-settled B n l i h a)
      ∙ ap (λ x. val V (test_formula B a l) || x) (test-settled B n l i h b)

  -- members of one instance read the same
  pub test-alike : (B : Scope) (n : ℕ) (l j : Layer) → Binds B n → live_in (row_at (program_rows p) n).live l ≡ true
      → live_in (row_at (program_rows p) n).live j ≡ true → one_instance (body_sharing p.body) n l j ≡ true → (e : Expression)
      → val (some_member p V) (test_formula B e l) ≡ val (some_member p V) (test_formula B e j)
  test-alike B n l j i h g o Tick = refl
  test-alike B n l j i h g o (Sig s) = by (B s) refl
    where
      by : (x : Binding) → B s ≡ x → val (some_member p V) (status_formula x s l) ≡ val (some_member p V) (status_formula x s j)
      by Entering e = refl
      by Outgoing e = refl
      by (BoundAt b) e =
          let x = i s b e in
          status-same p V is-there b (layer_above b l) (layer_above b j)
          (above-key p q event V F.kernel F.codes F.state F.solves F.walk b n l j x.0 x.1 h g o)
      by Unbound e = refl
  test-alike B n l j i h g o (Not a) = ap not (test-alike B n l j i h g o a)
  test-alike B n l j i h g o (And a b) =
      ap (λ x. x && val (some_member p V) (test_formula B b l)) (test-alike B n l j i h g o a)
      ∙ ap (λ x. val (some_member p V) (test_formula B a j) && x) (test-alike B n l j i h g o b)
  test-alike B n l j i h g o (Or a b) =
      ap (λ x. x || val (some_member p V) (test_formula B b l)) (test-alike B n l j i h g o a)
      ∙ ap (λ x. val (some_member p V) (test_formula B a j) || x) (test-alike B n l j i h g o b)
