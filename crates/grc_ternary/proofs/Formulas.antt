-- What the words of formulas mean by Kleene's tables: lists of formulas, ends, tests.
use Rattle.std.proofs.Common.{◌≡◌, ℕ, zero, suc, ◌<◌, Bool, true, false, ◌&&◌, ◌||◌, ◌==◌, cond, List, [], ◌∷◌, ◌++◌, refl, sym, ap, ◌∙◌}
use Rattle.est_kernel.specs.Terms.{Expression, Tick, Sig, Not, And, Or, Term}
use Rattle.est_kernel.specs.Statuses.{Status, Plus, Minus, Unknown, Environment, with_status, known, value, opposite, conjunction, disjunction}
use Rattle.est_kernel.proofs.Exports.{disjunction-minus}
use Rattle.grc_graph.specs.Layers.{Layer, Resumed, Started, layer_above}
use Rattle.grc_graph.specs.Scopes.{Binding, Entering, Outgoing, BoundAt, Unbound, Scope, bind}
use Rattle.grc_graph.specs.Wires.{Wire, Go, StatusOf, End, Out}
use Rattle.grc_graph.specs.Formulas.{Formula, Value, any_of, meaning}
use Rattle.grc_graph.specs.Spots.{Spot, status_formula, test_formula}
use Rattle.grc_graph.specs.Equations.{part_end, emits_on, emissions}
use Rattle.grc_graph.specs.Walk.{State, Values}
use Rattle.grc_solutions.proofs.Exports.{Above}
use Rattle.grc_ternary.proofs.Scoped.{has_value, TestInScope}
use Rattle.grc_solutions_laws.proofs.Exports.{emitted}
use Rattle.est_ternary.specs.TriWalks.{where_met, tri_upto}
use Rattle.est_ternary.proofs.Exports.{IsRail}
use Rattle.grc_graph.proofs.Exports.{above_behind}
use Rattle.grc_ternary.specs.LeastSolutions.{Statuses, upto_status, kleene_interpretation}

-- ---- statuses

pub met_absent : (b : Bool) → where_met b Minus ≡ Minus
met_absent true = refl
met_absent false = refl

pub or_three : (u v w : Status) → disjunction (disjunction u v) w ≡ disjunction u (disjunction v w)
or_three Plus v w = refl
or_three Minus v w = refl
or_three Unknown Plus w = refl
or_three Unknown Minus w = refl
or_three Unknown Unknown Plus = refl
or_three Unknown Unknown Minus = refl
or_three Unknown Unknown Unknown = refl

pub or_turned : (v w : Status) → disjunction v w ≡ disjunction w v
or_turned Plus Plus = refl
or_turned Plus Minus = refl
or_turned Plus Unknown = refl
or_turned Minus Plus = refl
or_turned Minus Minus = refl
or_turned Minus Unknown = refl
or_turned Unknown Plus = refl
or_turned Unknown Minus = refl
or_turned Unknown Unknown = refl

pub upto_same : (A : ℕ → Status) (k : ℕ) → upto_status A k ≡ tri_upto A k
upto_same A zero = refl
upto_same A (suc k) = ap (λ v. disjunction v (A (suc k))) (upto_same A k)

-- a status that is absent where a condition fails
pub met_same : (c : Bool) (x : Status) → (c ≡ false → x ≡ Minus) → where_met c x ≡ x
met_same true x f = refl
met_same false x f = sym (f refl)

module _ (body : Term) (q : State) (given : Values) (U : Statuses) where
  abbrev pub val : Formula → Status
  val a = meaning (kleene_interpretation body q given U) a

  -- the or of a list
  pub or_all : List Formula → Status
  or_all [] = Minus
  or_all (a ∷ fs) = disjunction (val a) (or_all fs)

  pub any_meaning : (fs : List Formula) → val (any_of fs) ≡ or_all fs
  unfolding or_all
  any_meaning [] = refl
  any_meaning (a ∷ []) = sym (disjunction-minus (val a))
  any_meaning (a ∷ (b ∷ fs)) = ap (λ v. disjunction (val a) v) (any_meaning (b ∷ fs))

  pub or_append : (xs ys : List Formula) → or_all (xs ++ ys) ≡ disjunction (or_all xs) (or_all ys)
  unfolding or_all
  or_append [] ys = refl
  or_append (a ∷ xs) ys = ap (λ v. disjunction (val a) v) (or_append xs ys) ∙ sym (or_three (val a) (or_all xs) (or_all ys))

  pub if_meaning : (c : Bool) (a : Formula) → or_all (cond c (a ∷ []) []) ≡ where_met c (val a)
  unfolding or_all
  if_meaning true a = disjunction-minus (val a)
  if_meaning false a = refl

  pub part_meaning : (A : ℕ → Bool) (c : ℕ) (l : Layer) (k : ℕ) → or_all (part_end A c l k) ≡ where_met (A k) (U (End c l k))
  part_meaning A c l k = if_meaning (A k) (Value (End c l k))

  pub two_meaning : (xs ys : List Formula) → val (any_of (xs ++ ys)) ≡ disjunction (or_all xs) (or_all ys)
  two_meaning xs ys = any_meaning (xs ++ ys) ∙ or_append xs ys

  -- what a place sees of a signal
  abbrev pub seen_status : Binding → ℕ → Layer → Status
  seen_status Entering s l = known (given s)
  seen_status Outgoing s l = U (Out s)
  seen_status (BoundAt n) s l = U (StatusOf n (layer_above n l))
  seen_status Unbound s l = Minus

  -- the environment has the statuses that a place sees, of the signals in scope
  pub record SeesStatuses (B : Scope) (l : Layer) (E : Environment) : Type 0 where
    pub each : (s : ℕ) → has_value (B s) ≡ true → E s ≡ seen_status (B s) s l

  status_meaning : (b : Binding) (s : ℕ) (l : Layer) → val (status_formula b s l) ≡ seen_status b s l
  status_meaning Entering s l = refl
  status_meaning _ s l = refl

  pub test_meaning : (B : Scope) (e : Expression) (l : Layer) (E : Environment) → SeesStatuses B l E → TestInScope B e → val (test_formula B e l) ≡ value e E
  test_meaning B Tick l E h i = refl
  test_meaning B (Sig s) l E h i = status_meaning (B s) s l ∙ sym (h.each s i)
  test_meaning B (Not a) l E h i = ap opposite (test_meaning B a l E h i)
  test_meaning B (And a b) l E h i =
      ap (λ v. conjunction v (val (test_formula B b l))) (test_meaning B a l E h i.0)
      ∙ ap (λ v. conjunction (value a E) v) (test_meaning B b l E h i.1)
  test_meaning B (Or a b) l E h i =
      ap (λ v. disjunction v (val (test_formula B b l))) (test_meaning B a l E h i.0)
      ∙ ap (λ v. disjunction (value a E) v) (test_meaning B b l E h i.1)

  bound_sees : (d : Bool) (n s : ℕ) (l : Layer) (b : Binding) (x : Status) → layer_above n l ≡ l → (has_value b ≡ true → x ≡ seen_status b s l) →
      has_value (cond d (BoundAt n) b) ≡ true → cond d (U (StatusOf n l)) x ≡ seen_status (cond d (BoundAt n) b) s l
  bound_sees true n s l b x e h i = ap (λ j. U (StatusOf n j)) (sym e)
  bound_sees false n s l b x e h i = h i

  -- in the body of a Local
  pub sees_more : (B : Scope) (n s : ℕ) (l : Layer) (E : Environment) → layer_above n l ≡ l → SeesStatuses B l E →
      SeesStatuses (bind B s n) l (with_status E s (U (StatusOf n l)))
  sees_more B n s l E e h = record { each = λ t i. bound_sees (t == s) n t l (B t) (E t) e (h.each t) i }

  root_sees : (b : Binding) (s m : ℕ) → ((c : ℕ) → b ≡ BoundAt c → c < m) → seen_status b s Resumed ≡ seen_status b s (Started m)
  root_sees (BoundAt b) s m h = ap (λ j. U (StatusOf b j)) (sym (above_behind b m (h b refl)))
  root_sees _ s m h = refl

  -- at a root of its own
  pub sees_root : (B : Scope) (m : ℕ) (E : Environment) → Above B m → SeesStatuses B Resumed E → SeesStatuses B (Started m) E
  sees_root B m E a h = record { each = λ s i. h.each s i ∙ root_sees (B s) s m (a.each s) }

  -- through a rail the or of the emissions on a wire is what is emitted on it
  pub rail_emissions : (f : Status → Bool) (r : IsRail f) (w : Wire) (xs : List Spot) → f (or_all (emissions w xs)) ≡ emitted (λ u. f (U u)) w xs
  unfolding or_all
  rail_emissions f r w [] = r.minus
  rail_emissions f r w (x ∷ xs) = by (emits_on w x.statement x.scope x.layer) (rail_emissions f r w xs)
    where
      by : (d : Bool) → f (or_all (emissions w xs)) ≡ emitted (λ u. f (U u)) w xs →
          f (or_all (cond d (Value (Go x.path x.layer) ∷ emissions w xs) (emissions w xs)))
          ≡ ((d && f (U (Go x.path x.layer))) || emitted (λ u. f (U u)) w xs)
      by true e = r.some (U (Go x.path x.layer)) (or_all (emissions w xs)) ∙ ap (λ b. f (U (Go x.path x.layer)) || b) e
      by false e = e
