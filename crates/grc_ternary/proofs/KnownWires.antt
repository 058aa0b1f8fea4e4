-- Where nothing is unknown: the formulas by Kleene's tables mean what they mean in Booleans, so the wires that are true
-- solve the graph; and where equations read up in a rank nothing is unknown. This asks nothing of how a graph was made.
use Rattle.std.proofs.Common.{◌≡◌, ℕ, zero, suc, ◌<◌, ◌≤◌, Bool, true, false, List, get_or, refl, sym, ap, ◌∙◌, subst, arith}
use Rattle.std.proofs.Common.{⊎_elim}
use Rattle.std.specs.Prelude.{Contains}
use Rattle.std.proofs.lemmas.Bool.{cases_Bool}
use Rattle.std.proofs.lemmas.List.Elements.{All-contains, Contains-get_or}
use Rattle.base_types.specs.Codes.{upto}
use Rattle.est_kernel.specs.Statuses.{Status, Plus, Minus, Unknown, known, opposite, conjunction, disjunction}
use Rattle.est_kernel.proofs.Exports.{conjunction-known, disjunction-known, opposite-known}
use Rattle.grc_graph.specs.Wires.{Wire, End}
use Rattle.grc_graph.specs.Formulas.{Formula, Const, Boot, Input, Value, Selected, Upto, Kept, Held, Negation, Conjunction, Disjunction}
use Rattle.grc_graph.specs.Equations.{Equation}
use Rattle.grc_graph.specs.Reads.{ReadsOnly}
use Rattle.grc_graph.specs.Walk.{State}
use Rattle.grc_graph.specs.Readings.{Valuation}
use Rattle.grc_graph.specs.GraphRuns.{PlainGraph, SolvesGraph, formula_value}
use Rattle.grc_solutions.specs.GraphWires.{equation_wires}
use Rattle.grc_solutions.specs.Solutions.{ReadUp}
use Rattle.grc_solutions.proofs.Exports.{is_given, given_contained, equation_of}
use Rattle.est_ternary.specs.KnownPlaces as statuses
use Rattle.grc_ternary.specs.LeastSolutions.{IsKnown, Statuses, TriSolves, is_plus, true_wires, upto_status}
use Rattle.grc_ternary.specs.Laws.{AcyclicKnown}
use Rattle.grc_ternary.proofs.StartedPlaces.{known_conjunction, known_disjunction}
use Rattle.grc_ternary.proofs.Stages.{status}

-- a status that is known, as a truth value
pub known_form : (v : Status) → statuses.IsKnown v → (b : Bool) × (v ≡ known b)
known_form Plus k = (true, refl)
known_form Minus k = (false, refl)
known_form Unknown k = absurd k

pub form_known : (v : Status) (b : Bool) → v ≡ known b → statuses.IsKnown v
form_known v true e = subst statuses.IsKnown (sym e) tt
form_known v false e = subst statuses.IsKnown (sym e) tt

pub plus_known : (b : Bool) → is_plus (known b) ≡ b
plus_known true = refl
plus_known false = refl

-- a known status is that of the valuation
pub true_known : (T : Statuses) → IsKnown T → (w : Wire) → T w ≡ known (true_wires T w)
true_known T k w =
    let h = k w in
    h.1 ∙ ap known (sym (ap is_plus h.1 ∙ plus_known h.0))

known_opposite : (v : Status) → statuses.IsKnown v → statuses.IsKnown (opposite v)
known_opposite Unknown k = absurd k
known_opposite _ k = tt

known_const : (b : Bool) → statuses.IsKnown (known b)
known_const true = tt
known_const false = tt

known_up : (A : ℕ → Status) (k : ℕ) → ((j : ℕ) → j ≤ k → statuses.IsKnown (A j)) → statuses.IsKnown (upto_status A k)
known_up A zero f = f 0 (omega arith)
known_up A (suc k) f = known_disjunction (upto_status A k) (A (suc k)) (known_up A k (λ j l. f j (omega arith))) (f (suc k) (omega arith))

upto_known : (A : ℕ → Status) (B : ℕ → Bool) (k : ℕ) → ((j : ℕ) → A j ≡ known (B j)) → upto_status A k ≡ known (upto B k)
upto_known A B zero f = f 0
upto_known A B (suc k) f =
    ap (λ v. disjunction v (A (suc k))) (upto_known A B k f) ∙ ap (λ v. disjunction (known (upto B k)) v) (f (suc k)) ∙ disjunction-known (upto B k) (B (suc k))

module _ (g : PlainGraph) (q : State) (event : List Bool) where
  -- a formula is known where what it reads is
  formula_known : (P : Wire → Type 0) (T : Statuses) → ((u : Wire) → P u → statuses.IsKnown (T u)) → (a : Formula) → ReadsOnly P a →
      statuses.IsKnown (status g q event T a)
  formula_known P T f (Const b) h = known_const b
  formula_known P T f (Value w) h = f w h
  formula_known P T f (Upto n l k) h = known_up (λ j. T (End n l j)) k (λ j i. f (End n l j) (h j i))
  formula_known P T f (Kept n l) h = absurd h
  formula_known P T f (Held n l) h = absurd h
  formula_known P T f (Negation a) h = known_opposite (status g q event T a) (formula_known P T f a h)
  formula_known P T f (Conjunction a b) h =
      known_conjunction (status g q event T a) (status g q event T b) (formula_known P T f a h.0) (formula_known P T f b h.1)
  formula_known P T f (Disjunction a b) h =
      known_disjunction (status g q event T a) (status g q event T b) (formula_known P T f a h.0) (formula_known P T f b h.1)
  formula_known P T f _ h = known_const _

  -- where all wires are known, a formula has the value that it has in Booleans
  same_meaning : (P : Wire → Type 0) (T : Statuses) (V : Valuation) → ((w : Wire) → T w ≡ known (V w)) → (a : Formula) → ReadsOnly P a →
      status g q event T a ≡ known (formula_value g q event V a)
  same_meaning P T V f (Value w) h = f w
  same_meaning P T V f (Upto n l k) h = upto_known (λ j. T (End n l j)) (λ j. V (End n l j)) k (λ j. f (End n l j))
  same_meaning P T V f (Kept n l) h = absurd h
  same_meaning P T V f (Held n l) h = absurd h
  same_meaning P T V f (Negation a) h = ap opposite (same_meaning P T V f a h) ∙ opposite-known _
  same_meaning P T V f (Conjunction a b) h =
      ap (λ v. conjunction v (status g q event T b)) (same_meaning P T V f a h.0)
      ∙ ap (λ v. conjunction (known (formula_value g q event V a)) v) (same_meaning P T V f b h.1) ∙ conjunction-known _ _
  same_meaning P T V f (Disjunction a b) h =
      ap (λ v. disjunction v (status g q event T b)) (same_meaning P T V f a h.0)
      ∙ ap (λ v. disjunction (known (formula_value g q event V a)) v) (same_meaning P T V f b h.1) ∙ disjunction-known _ _
  same_meaning P T V f _ h = refl

  -- so the wires that are true solve the graph
  pub known_solves : (P : Equation → Wire → Type 0) → ((e : Equation) → Contains g.equations e → ReadsOnly (P e) e.formula) → (T : Statuses) →
      TriSolves g q event T → IsKnown T → SolvesGraph g q event (true_wires T)
  known_solves P reads T s k = record {
    met = λ i x l.
        let e = get_or g.equations i x in
        let c = Contains-get_or g.equations i x l in
        ap is_plus (All-contains (λ y. T y.wire ≡ status g q event T y.formula) g.equations e s.met c
        ∙ same_meaning (P e) T (true_wires T) (true_known T k) e.formula (reads e c))
        ∙ plus_known _;
    others = λ w h. ap is_plus (s.others w h);
  }

  -- ---- ranks

  module _ (T : Statuses) (s : TriSolves g q event T) (rank : Wire → ℕ) (up : ReadUp rank g.equations) where
    -- what is of lower rank is known, so the wire is
    from_lower : (i : ℕ) → ((u : Wire) → rank u < i → statuses.IsKnown (T u)) → (w : Wire) → rank w < suc i →
        (e : Equation) × Contains g.equations e × (e.wire ≡ w) → statuses.IsKnown (T w)
    from_lower i below w l c =
        let e = c.0 in
        let r : rank e.wire < suc i = subst (λ x. rank x < suc i) (sym c.2) l in
        subst (λ x. statuses.IsKnown (T x)) c.2
        (subst statuses.IsKnown (sym (All-contains (λ y. T y.wire ≡ status g q event T y.formula) g.equations e s.met c.1))
        (formula_known (λ u. Contains (equation_wires g.equations) u → rank u < rank e.wire) T
        (λ u f. ⊎_elim
        (λ h. let k = f (given_contained g.equations u h) in below u (omega arith))
        (λ h. subst statuses.IsKnown (sym (s.others u h)) tt)
        (cases_Bool (is_given g.equations u)))
        e.formula (All-contains (λ x. ReadsOnly (λ u. Contains (equation_wires g.equations) u → rank u < rank x.wire) x.formula) g.equations e up c.1)))

    known_under : (i : ℕ) (w : Wire) → rank w < i → statuses.IsKnown (T w)
    known_under zero w l = absurd (omega arith)
    known_under (suc i) w l =
        ⊎_elim
        (λ h. from_lower i (known_under i) w l (equation_of g.equations w (given_contained g.equations w h)))
        (λ h. subst statuses.IsKnown (sym (s.others w h)) tt)
        (cases_Bool (is_given g.equations w))

pub acyclic_known_lem : AcyclicKnown
acyclic_known_lem g q event T rank up s w = known_form (T w) (known_under g q event T s rank up (suc (rank w)) w (omega arith))
