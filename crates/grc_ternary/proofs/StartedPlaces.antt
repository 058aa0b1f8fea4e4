-- The wires of a started statement and the walk of its term. New statuses W of the wires follow from old ones U by the
-- equations of its instances; in a solution both are one. A solution knows at least what the walk knows; and statuses
-- that know no more than the walk lead to statuses that know no more either.
use Rattle.std.proofs.Common.{◌≡◌, ℕ, zero, suc, ◌+◌, Bool, true, false, not, ◌==◌, refl, sym, subst}
use Rattle.est_kernel.specs.Terms.{Term, Nothing, Pause, Emit, Exit, Present, Suspend, Seq, Loop, Par, Trap, Local, Awake}
use Rattle.est_kernel.specs.Statuses.{Status, Plus, Minus, Unknown, Environment, with_status, value, opposite, conjunction, disjunction}
use Rattle.est_kernel.specs.Preorder.{statement_count}
use Rattle.est_kernel.specs.Laws.{IsBelow, KnowsMore}
use Rattle.est_kernel.proofs.Exports.{conjunction_below, disjunction_below, value_below, with_status-more}
use Rattle.grc_graph.specs.Layers.{Layer}
use Rattle.grc_graph.specs.Scopes.{Scope, bind}
use Rattle.grc_graph.specs.Wires.{Wire, Go, StatusOf, End}
use Rattle.grc_graph.specs.Formulas.{Formula}
use Rattle.grc_graph.specs.Spots.{Spot}
use Rattle.grc_solutions.proofs.Exports.{EachStarted}
use Rattle.est_ternary.proofs.Exports.{known_go, met_below, choice_below, upto_below, lowered_below, decided_again}
use Rattle.est_ternary.specs.TriWalks.{Tri, where_met, tri_upto, tri_maxima, tri_lowered, tri, tri_decided}
use Rattle.est_ternary.specs.KnownPlaces.{IsKnown, Known}
use Rattle.est_ternary.specs.Laws.{Below}
use Rattle.grc_ternary.specs.LeastSolutions.{Statuses}

-- what the walk's place is on the wires: the statuses of the emissions, and of the ends
abbrev pub emits : Statuses → Term → ℕ → Layer → ℕ → Status
emits U (Emit x) n l s = where_met (s == x) (U (Go n l))
emits U (Present e p q) n l s = disjunction (emits U p (n + 1) l s) (emits U q (n + 1 + statement_count p) l s)
emits U (Suspend e p) n l s = emits U p (n + 1) l s
emits U (Seq p q) n l s = disjunction (emits U p (n + 1) l s) (emits U q (n + 1 + statement_count p) l s)
emits U (Loop at p) n l s = emits U p (n + 1) l s
emits U (Par p q) n l s = disjunction (emits U p (n + 1) l s) (emits U q (n + 1 + statement_count p) l s)
emits U (Trap p) n l s = emits U p (n + 1) l s
emits U (Local x p) n l s = where_met (not (s == x)) (emits U p (n + 1) l s)
emits U _ n l s = Minus

abbrev pub ends : Statuses → ℕ → Layer → ℕ → Status
ends U n l k = U (End n l k)

abbrev pub place : Statuses → Term → ℕ → Layer → Tri
place U t n l = record { signals = emits U t n l; codes = ends U n l }

-- The wires of a started statement at n in a layer follow by their equations, where its tests see the environment. A
-- wire that the graph does not have counts as well: it is false.
abbrev pub Follows : Statuses → Statuses → Term → ℕ → Layer → Environment → Type 0
Follows W U Pause n l E = (k : ℕ) → ends W n l k ≡ where_met (k == 1) (U (Go n l))
Follows W U (Exit c) n l E = (k : ℕ) → ends W n l k ≡ where_met (k == c) (U (Go n l))
Follows W U (Present e p q) n l E =
    (W (Go (n + 1) l) ≡ conjunction (U (Go n l)) (value e E))
    × (W (Go (n + 1 + statement_count p) l) ≡ conjunction (U (Go n l)) (opposite (value e E)))
    × ((k : ℕ) → ends W n l k ≡ disjunction (ends U (n + 1) l k) (ends U (n + 1 + statement_count p) l k))
    × Follows W U p (n + 1) l E
    × Follows W U q (n + 1 + statement_count p) l E
Follows W U (Suspend e p) n l E =
    (W (Go (n + 1) l) ≡ U (Go n l)) × ((k : ℕ) → ends W n l k ≡ ends U (n + 1) l k) × Follows W U p (n + 1) l E
Follows W U (Seq p q) n l E =
    (W (Go (n + 1) l) ≡ U (Go n l))
    × (W (Go (n + 1 + statement_count p) l) ≡ ends U (n + 1) l 0)
    × ((k : ℕ) → ends W n l k ≡ disjunction (where_met (not (k == 0)) (ends U (n + 1) l k)) (ends U (n + 1 + statement_count p) l k))
    × Follows W U p (n + 1) l E
    × Follows W U q (n + 1 + statement_count p) l E
Follows W U (Loop at p) n l E =
    (W (Go (n + 1) l) ≡ U (Go n l)) × ((k : ℕ) → ends W n l k ≡ ends U (n + 1) l k) × Follows W U p (n + 1) l E
Follows W U (Par p q) n l E =
    (W (Go (n + 1) l) ≡ U (Go n l))
    × (W (Go (n + 1 + statement_count p) l) ≡ U (Go n l))
    × ((k : ℕ) → ends W n l k ≡ tri_maxima (ends U (n + 1) l) (ends U (n + 1 + statement_count p) l) k)
    × Follows W U p (n + 1) l E
    × Follows W U q (n + 1 + statement_count p) l E
Follows W U (Trap p) n l E =
    (W (Go (n + 1) l) ≡ U (Go n l)) × ((k : ℕ) → ends W n l k ≡ tri_lowered (ends U (n + 1) l) k) × Follows W U p (n + 1) l E
Follows W U (Local s p) n l E =
    (W (Go (n + 1) l) ≡ U (Go n l))
    × ((k : ℕ) → ends W n l k ≡ ends U (n + 1) l k)
    × (W (StatusOf n l) ≡ emits U p (n + 1) l s)
    × Follows W U p (n + 1) l (with_status E s (U (StatusOf n l)))
-- no body of a program has this form
Follows W U (Awake e p) n l E = ⊥
Follows W U _ n l E = (k : ℕ) → ends W n l k ≡ where_met (k == 0) (U (Go n l))

-- ---- a solution knows at least what the walk knows

pub below_to : (v : Status) {w x : Status} → IsBelow v w → x ≡ w → IsBelow v x
below_to v h e = subst (λ y. IsBelow v y) (sym e) h

pub to_below : {v w : Status} (x : Status) → IsBelow w x → v ≡ w → IsBelow v x
to_below x h e = subst (λ y. IsBelow y x) (sym e) h

pub maxima_below : (A B C D : ℕ → Status) → ((k : ℕ) → IsBelow (A k) (C k)) → ((k : ℕ) → IsBelow (B k) (D k)) → (k : ℕ) →
    IsBelow (tri_maxima A B k) (tri_maxima C D k)
maxima_below A B C D f g k =
    conjunction_below _ _ _ _ (upto_below A C f k)
    (conjunction_below _ _ _ _ (upto_below B D g k) (disjunction_below (A k) (C k) (B k) (D k) (f k) (g k)))

pub above : (T : Statuses) (t : Term) (n : ℕ) (l : Layer) (g : Status) (E F : Environment) → Follows T T t n l E → IsBelow g (T (Go n l)) → KnowsMore F E →
    Below (tri t g F) (place T t n l)
above T Nothing n l g E F f b m = record { signals = λ s. refl; codes = λ k. below_to _ (met_below (k == 0) g (T (Go n l)) b) (f k) }
above T Pause n l g E F f b m = record { signals = λ s. refl; codes = λ k. below_to _ (met_below (k == 1) g (T (Go n l)) b) (f k) }
above T (Emit x) n l g E F f b m = record {
  signals = λ s. met_below (s == x) g (T (Go n l)) b;
  codes = λ k. below_to _ (met_below (k == 0) g (T (Go n l)) b) (f k);
}
above T (Exit c) n l g E F f b m = record { signals = λ s. refl; codes = λ k. below_to _ (met_below (k == c) g (T (Go n l)) b) (f k) }
above T (Present e p q) n l g E F f b m =
    let v = value_below e F E m in
    let x = above T p (n + 1) l _ E F f.3 (below_to _ (conjunction_below g (T (Go n l)) (value e F) (value e E) b v) f.0) m in
    let y = above T q (n + 1 + statement_count p) l _ E F f.4 (below_to _ (choice_below g (T (Go n l)) (value e F) (value e E) b v) f.1) m in
    record {
      signals = λ s. disjunction_below _ _ _ _ (x.signals s) (y.signals s);
      codes = λ k. below_to _ (disjunction_below _ _ _ _ (x.codes k) (y.codes k)) (f.2 k);
    }
above T (Suspend e p) n l g E F f b m =
    let x = above T p (n + 1) l g E F f.2 (below_to _ b f.0) m in
    record { signals = x.signals; codes = λ k. below_to _ (x.codes k) (f.1 k) }
above T (Seq p q) n l g E F f b m =
    let x = above T p (n + 1) l g E F f.3 (below_to _ b f.0) m in
    let y = above T q (n + 1 + statement_count p) l _ E F f.4 (below_to _ (x.codes 0) f.1) m in
    record {
      signals = λ s. disjunction_below _ _ _ _ (x.signals s) (y.signals s);
      codes = λ k. below_to _ (disjunction_below _ _ _ _ (met_below (not (k == 0)) _ _ (x.codes k)) (y.codes k)) (f.2 k);
    }
above T (Loop at p) n l g E F f b m =
    let x = above T p (n + 1) l g E F f.2 (below_to _ b f.0) m in
    record { signals = x.signals; codes = λ k. below_to _ (x.codes k) (f.1 k) }
above T (Par p q) n l g E F f b m =
    let x = above T p (n + 1) l g E F f.3 (below_to _ b f.0) m in
    let y = above T q (n + 1 + statement_count p) l g E F f.4 (below_to _ b f.1) m in
    record {
      signals = λ s. disjunction_below _ _ _ _ (x.signals s) (y.signals s);
      codes = λ k. below_to _ (maxima_below _ _ _ _ x.codes y.codes k) (f.2 k);
    }
above T (Trap p) n l g E F f b m =
    let x = above T p (n + 1) l g E F f.2 (below_to _ b f.0) m in
    record { signals = x.signals; codes = λ k. below_to _ (lowered_below _ _ x.codes k) (f.1 k) }
above T (Local s p) n l g E F f b m =
    let c = T (StatusOf n l) in
    let d = (above T p (n + 1) l g (with_status E s c) (with_status F s Unknown) f.3 (below_to _ b f.0) (with_status-more s Unknown c m tt)).signals s in
    let x = above T p (n + 1) l g (with_status E s c) (with_status F s (tri_decided p g F s)) f.3 (below_to _ b f.0)
    (with_status-more s (tri_decided p g F s) c m (below_to _ d f.2)) in
    record {
      signals = λ t. met_below (not (t == s)) _ _ (x.signals t);
      codes = λ k. below_to _ (x.codes k) (f.1 k);
    }
above T (Awake e p) n l g E F f b m = absurd f

-- the status of a Local is above the one that the walk decides
pub above_decided : (T : Statuses) (s : ℕ) (p : Term) (n : ℕ) (l : Layer) (g : Status) (E F : Environment) → Follows T T (Local s p) n l E →
    IsBelow g (T (Go n l)) → KnowsMore F E → IsBelow (tri_decided p g F s) (T (StatusOf n l))
above_decided T s p n l g E F f b m =
    let c = T (StatusOf n l) in
    below_to _ ((above T p (n + 1) l g (with_status E s c) (with_status F s Unknown) f.3 (below_to _ b f.0) (with_status-more s Unknown c m tt)).signals s) f.2

-- ---- statuses that know no more than the walk

-- Whether the places run, with what codes they end and the statuses of the Locals are below what the walk knows.
abbrev pub Under : Statuses → Term → ℕ → Layer → Status → Environment → Type 0
Under U (Present e p q) n l g F =
    IsBelow (U (Go n l)) g
    × ((k : ℕ) → IsBelow (ends U n l k) ((tri (Present e p q) g F).codes k))
    × Under U p (n + 1) l (conjunction g (value e F)) F
    × Under U q (n + 1 + statement_count p) l (conjunction g (opposite (value e F))) F
Under U (Suspend e p) n l g F =
    IsBelow (U (Go n l)) g × ((k : ℕ) → IsBelow (ends U n l k) ((tri p g F).codes k)) × Under U p (n + 1) l g F
Under U (Seq p q) n l g F =
    IsBelow (U (Go n l)) g
    × ((k : ℕ) → IsBelow (ends U n l k) ((tri (Seq p q) g F).codes k))
    × Under U p (n + 1) l g F
    × Under U q (n + 1 + statement_count p) l ((tri p g F).codes 0) F
Under U (Loop at p) n l g F =
    IsBelow (U (Go n l)) g × ((k : ℕ) → IsBelow (ends U n l k) ((tri p g F).codes k)) × Under U p (n + 1) l g F
Under U (Par p q) n l g F =
    IsBelow (U (Go n l)) g
    × ((k : ℕ) → IsBelow (ends U n l k) ((tri (Par p q) g F).codes k))
    × Under U p (n + 1) l g F
    × Under U q (n + 1 + statement_count p) l g F
Under U (Trap p) n l g F =
    IsBelow (U (Go n l)) g × ((k : ℕ) → IsBelow (ends U n l k) ((tri (Trap p) g F).codes k)) × Under U p (n + 1) l g F
Under U (Local s p) n l g F =
    IsBelow (U (Go n l)) g
    × ((k : ℕ) → IsBelow (ends U n l k) ((tri (Local s p) g F).codes k))
    × IsBelow (U (StatusOf n l)) (tri_decided p g F s)
    × Under U p (n + 1) l g (with_status F s (tri_decided p g F s))
-- no body of a program has this form
Under U (Awake e p) n l g F = ⊥
Under U t n l g F = IsBelow (U (Go n l)) g × ((k : ℕ) → IsBelow (ends U n l k) ((tri t g F).codes k))

pub under_ends : (U : Statuses) (t : Term) (n : ℕ) (l : Layer) (g : Status) (F : Environment) → Under U t n l g F → (k : ℕ) →
    IsBelow (ends U n l k) ((tri t g F).codes k)
under_ends U (Awake e p) n l g F u = absurd u
under_ends U _ n l g F u = u.1

pub under_emits : (U : Statuses) (t : Term) (n : ℕ) (l : Layer) (g : Status) (F : Environment) → Under U t n l g F → (s : ℕ) →
    IsBelow (emits U t n l s) ((tri t g F).signals s)
under_emits U (Emit x) n l g F u s = met_below (s == x) (U (Go n l)) g u.0
under_emits U (Present e p q) n l g F u s =
    disjunction_below _ _ _ _ (under_emits U p (n + 1) l _ F u.2 s) (under_emits U q (n + 1 + statement_count p) l _ F u.3 s)
under_emits U (Suspend e p) n l g F u s = under_emits U p (n + 1) l g F u.2 s
under_emits U (Seq p q) n l g F u s =
    disjunction_below _ _ _ _ (under_emits U p (n + 1) l g F u.2 s) (under_emits U q (n + 1 + statement_count p) l _ F u.3 s)
under_emits U (Loop at p) n l g F u s = under_emits U p (n + 1) l g F u.2 s
under_emits U (Par p q) n l g F u s =
    disjunction_below _ _ _ _ (under_emits U p (n + 1) l g F u.2 s) (under_emits U q (n + 1 + statement_count p) l g F u.3 s)
under_emits U (Trap p) n l g F u s = under_emits U p (n + 1) l g F u.2 s
under_emits U (Local x p) n l g F u s =
    met_below (not (s == x)) _ _ (under_emits U p (n + 1) l g (with_status F x (tri_decided p g F x)) u.3 s)
under_emits U (Awake e p) n l g F u s = absurd u
under_emits U _ n l g F u s = refl

-- Statuses that follow from such ones know no more than the walk either.
pub stays_under : (W U : Statuses) (t : Term) (n : ℕ) (l : Layer) (g : Status) (E F : Environment) → Follows W U t n l E → KnowsMore E F → Under U t n l g F →
    IsBelow (W (Go n l)) g → Under W t n l g F
stays_under W U Pause n l g E F f m u h = (h, λ k. to_below _ (met_below (k == 1) (U (Go n l)) g u.0) (f k))
stays_under W U (Exit c) n l g E F f m u h = (h, λ k. to_below _ (met_below (k == c) (U (Go n l)) g u.0) (f k))
stays_under W U (Present e p q) n l g E F f m u h =
    let r = n + 1 + statement_count p in
    let v = value_below e E F m in (
      h,
      (λ k. to_below _ (disjunction_below _ _ _ _ (under_ends U p (n + 1) l _ F u.2 k) (under_ends U q r l _ F u.3 k)) (f.2 k)),
      stays_under W U p (n + 1) l _ E F f.3 m u.2 (to_below _ (conjunction_below (U (Go n l)) g (value e E) (value e F) u.0 v) f.0),
      stays_under W U q r l _ E F f.4 m u.3 (to_below _ (choice_below (U (Go n l)) g (value e E) (value e F) u.0 v) f.1),
    )
stays_under W U (Suspend e p) n l g E F f m u h = (
  h,
  (λ k. to_below _ (under_ends U p (n + 1) l g F u.2 k) (f.1 k)),
  stays_under W U p (n + 1) l g E F f.2 m u.2 (to_below _ u.0 f.0),
)
stays_under W U (Seq p q) n l g E F f m u h =
    let r = n + 1 + statement_count p in (
      h,
      (λ k.
          to_below _ (disjunction_below _ _ _ _ (met_below (not (k == 0)) _ _ (under_ends U p (n + 1) l g F u.2 k)) (under_ends U q r l _ F u.3 k)) (f.2 k)),
      stays_under W U p (n + 1) l g E F f.3 m u.2 (to_below _ u.0 f.0),
      stays_under W U q r l _ E F f.4 m u.3 (to_below _ (under_ends U p (n + 1) l g F u.2 0) f.1),
    )
stays_under W U (Loop at p) n l g E F f m u h = (
  h,
  (λ k. to_below _ (under_ends U p (n + 1) l g F u.2 k) (f.1 k)),
  stays_under W U p (n + 1) l g E F f.2 m u.2 (to_below _ u.0 f.0),
)
stays_under W U (Par p q) n l g E F f m u h =
    let r = n + 1 + statement_count p in (
      h,
      (λ k. to_below _ (maxima_below _ _ _ _ (under_ends U p (n + 1) l g F u.2) (under_ends U q r l g F u.3) k) (f.2 k)),
      stays_under W U p (n + 1) l g E F f.3 m u.2 (to_below _ u.0 f.0),
      stays_under W U q r l g E F f.4 m u.3 (to_below _ u.0 f.1),
    )
stays_under W U (Trap p) n l g E F f m u h = (
  h,
  (λ k. to_below _ (lowered_below _ _ (under_ends U p (n + 1) l g F u.2) k) (f.1 k)),
  stays_under W U p (n + 1) l g E F f.2 m u.2 (to_below _ u.0 f.0),
)
stays_under W U (Local s p) n l g E F f m u h =
    let d = tri_decided p g F s in
    let G = with_status F s d in (
      h,
      (λ k. to_below _ (under_ends U p (n + 1) l g G u.3 k) (f.1 k)),
      to_below _ (subst (λ v. IsBelow (emits U p (n + 1) l s) v) (decided_again p g F s) (under_emits U p (n + 1) l g G u.3 s)) f.2,
      stays_under W U p (n + 1) l g (with_status E s (U (StatusOf n l))) G f.3 (with_status-more s (U (StatusOf n l)) d m u.2) u.3 (to_below _ u.0 f.0),
    )
stays_under W U (Awake e p) n l g E F f m u h = absurd f
stays_under W U _ n l g E F f m u h = (h, λ k. to_below _ (met_below (k == 0) (U (Go n l)) g u.0) (f k))

-- ---- nothing is unknown

pub known_above : (v w : Status) → IsKnown v → IsBelow v w → IsKnown w
known_above Unknown w k b = absurd k
known_above _ w k b = subst IsKnown (sym b) tt

pub known_met : (b : Bool) (v : Status) → IsKnown v → IsKnown (where_met b v)
known_met true v k = k
known_met false v k = tt

pub known_conjunction : (v w : Status) → IsKnown v → IsKnown w → IsKnown (conjunction v w)
known_conjunction Plus w k i = i
known_conjunction Minus w k i = tt
known_conjunction Unknown w k i = absurd k

pub known_disjunction : (v w : Status) → IsKnown v → IsKnown w → IsKnown (disjunction v w)
known_disjunction Plus w k i = tt
known_disjunction Minus w k i = i
known_disjunction Unknown w k i = absurd k

pub known_upto : (A : ℕ → Status) → ((k : ℕ) → IsKnown (A k)) → (k : ℕ) → IsKnown (tri_upto A k)
known_upto A f zero = f 0
known_upto A f (suc k) = known_disjunction (tri_upto A k) (A (suc k)) (known_upto A f k) (f (suc k))

pub known_maxima : (A B : ℕ → Status) → ((k : ℕ) → IsKnown (A k)) → ((k : ℕ) → IsKnown (B k)) → (k : ℕ) → IsKnown (tri_maxima A B k)
known_maxima A B f g k =
    known_conjunction (tri_upto A k) _ (known_upto A f k)
    (known_conjunction (tri_upto B k) _ (known_upto B g k) (known_disjunction (A k) (B k) (f k) (g k)))

pub known_lowered : (A : ℕ → Status) → ((k : ℕ) → IsKnown (A k)) → (k : ℕ) → IsKnown (tri_lowered A k)
known_lowered A f zero = known_disjunction (A 0) (A 2) (f 0) (f 2)
known_lowered A f (suc zero) = f 1
known_lowered A f (suc (suc k)) = f (suc (suc (suc k)))

pub unopposed : (g v : Status) → IsKnown g → IsKnown (conjunction g (opposite v)) → IsKnown (conjunction g v)
unopposed Plus Plus k i = tt
unopposed Plus Minus k i = tt
unopposed Plus Unknown k i = absurd i
unopposed Minus v k i = tt
unopposed Unknown v k i = absurd k

-- where the walk asks for nothing unknown, it is known with what codes it ends
pub known_codes : (t : Term) (g : Status) (F : Environment) → Known t g F → (k : ℕ) → IsKnown ((tri t g F).codes k)
known_codes Pause g F k c = known_met (c == 1) g k
known_codes (Exit x) g F k c = known_met (c == x) g k
known_codes (Present e p q) g F k c = known_disjunction _ _ (known_codes p _ F k.1 c) (known_codes q _ F k.2 c)
known_codes (Suspend e p) g F k c = known_codes p g F k.1 c
known_codes (Seq p q) g F k c =
    known_disjunction _ _ (known_met (not (c == 0)) _ (known_codes p g F k.1 c)) (known_codes q _ F k.2 c)
known_codes (Loop at p) g F k c = known_codes p g F k.1 c
known_codes (Par p q) g F k c = known_maxima _ _ (known_codes p g F k.1) (known_codes q g F k.2) c
known_codes (Trap p) g F k c = known_lowered _ (known_codes p g F k.1) c
known_codes (Local s p) g F k c = known_codes p g (with_status F s (tri_decided p g F s)) k.2 c
known_codes (Awake e p) g F k c =
    known_disjunction _ _ (known_met (c == 1) _ (unopposed g (value e F) k.0 (known_go p _ F k.1))) (known_codes p _ F k.1 c)
known_codes _ g F k c = known_met (c == 0) g k

-- where no wire of statuses that know no more than the walk is unknown, the walk asks for nothing unknown
pub under_known : (T : Statuses) → ((w : Wire) → IsKnown (T w)) → (t : Term) (n : ℕ) (l : Layer) (g : Status) (F : Environment) → Under T t n l g F
    → Known t g F
under_known T a (Present e p q) n l g F u = (
  known_above (T (Go n l)) g (a (Go n l)) u.0,
  under_known T a p (n + 1) l _ F u.2,
  under_known T a q (n + 1 + statement_count p) l _ F u.3,
)
under_known T a (Suspend e p) n l g F u = (known_above (T (Go n l)) g (a (Go n l)) u.0, under_known T a p (n + 1) l g F u.2)
under_known T a (Seq p q) n l g F u = (
  known_above (T (Go n l)) g (a (Go n l)) u.0,
  under_known T a p (n + 1) l g F u.2,
  under_known T a q (n + 1 + statement_count p) l _ F u.3,
)
under_known T a (Loop at p) n l g F u = (known_above (T (Go n l)) g (a (Go n l)) u.0, under_known T a p (n + 1) l g F u.2)
under_known T a (Par p q) n l g F u = (
  known_above (T (Go n l)) g (a (Go n l)) u.0,
  under_known T a p (n + 1) l g F u.2,
  under_known T a q (n + 1 + statement_count p) l g F u.3,
)
under_known T a (Trap p) n l g F u = (known_above (T (Go n l)) g (a (Go n l)) u.0, under_known T a p (n + 1) l g F u.2)
under_known T a (Local s p) n l g F u = (
  known_above (T (Go n l)) g (a (Go n l)) u.0,
  known_above (T (StatusOf n l)) _ (a (StatusOf n l)) u.2,
  under_known T a p (n + 1) l g (with_status F s (tri_decided p g F s)) u.3,
)
under_known T a (Awake e p) n l g F u = absurd u
under_known T a _ n l g F u = known_above (T (Go n l)) g (a (Go n l)) u.0

-- the wires of an instance are known
abbrev pub StatusKnown : Statuses → Term → ℕ → Layer → Type 0
StatusKnown T (Local s p) n l = IsKnown (T (StatusOf n l))
StatusKnown T t n l = Unit {0}

pub record WiresKnown (T : Statuses) (x : Spot) : Type 0 where
  pub go : IsKnown (T (Go x.path x.layer))
  pub ends : (k : ℕ) → IsKnown (T (End x.path x.layer k))
  pub status : StatusKnown T x.statement x.path x.layer

-- Where the walk asks for nothing unknown, no wire of a solution that knows at least what the walk knows is unknown.
pub above_known : (T : Statuses) (t : Term) (n : ℕ) (l : Layer) (g : Status) (E F : Environment) (B : Scope) (f : Layer → Formula) → Follows T T t n l E →
    Known t g F → IsBelow g (T (Go n l)) → KnowsMore F E → EachStarted (WiresKnown T) B f t n l
above_known T Pause n l g E F B f w k b m =
    record { go = known_above g _ k b; ends = λ c. subst IsKnown (sym (w c)) (known_met (c == 1) _ (known_above g _ k b)); status = tt }
above_known T (Exit x) n l g E F B f w k b m =
    record { go = known_above g _ k b; ends = λ c. subst IsKnown (sym (w c)) (known_met (c == x) _ (known_above g _ k b)); status = tt }
above_known T (Present e p q) n l g E F B f w k b m =
    let v = value_below e F E m in (
      record {
        go = known_above g _ k.0 b;
        ends = λ c. known_above _ _ (known_codes (Present e p q) g F k c) ((above T (Present e p q) n l g E F w b m).codes c);
        status = tt;
      },
      above_known T p (n + 1) l _ E F B _ w.3 k.1 (below_to _ (conjunction_below g (T (Go n l)) (value e F) (value e E) b v) w.0) m,
      above_known T q (n + 1 + statement_count p) l _ E F B _ w.4 k.2 (below_to _ (choice_below g (T (Go n l)) (value e F) (value e E) b v) w.1) m,
    )
above_known T (Suspend e p) n l g E F B f w k b m = (
  record {
    go = known_above g _ k.0 b;
    ends = λ c. known_above _ _ (known_codes p g F k.1 c) ((above T (Suspend e p) n l g E F w b m).codes c);
    status = tt;
  },
  above_known T p (n + 1) l g E F B _ w.2 k.1 (below_to _ b w.0) m,
)
above_known T (Seq p q) n l g E F B f w k b m =
    let x = above T p (n + 1) l g E F w.3 (below_to _ b w.0) m in (
      record {
        go = known_above g _ k.0 b;
        ends = λ c. known_above _ _ (known_codes (Seq p q) g F k c) ((above T (Seq p q) n l g E F w b m).codes c);
        status = tt;
      },
      above_known T p (n + 1) l g E F B _ w.3 k.1 (below_to _ b w.0) m,
      λ z. above_known T q (n + 1 + statement_count p) l _ E F B _ w.4 k.2 (below_to _ (x.codes 0) w.1) m,
    )
above_known T (Loop at p) n l g E F B f w k b m = (
  record {
    go = known_above g _ k.0 b;
    ends = λ c. known_above _ _ (known_codes p g F k.1 c) ((above T (Loop at p) n l g E F w b m).codes c);
    status = tt;
  },
  above_known T p (n + 1) l g E F B _ w.2 k.1 (below_to _ b w.0) m,
)
above_known T (Par p q) n l g E F B f w k b m = (
  record {
    go = known_above g _ k.0 b;
    ends = λ c. known_above _ _ (known_codes (Par p q) g F k c) ((above T (Par p q) n l g E F w b m).codes c);
    status = tt;
  },
  above_known T p (n + 1) l g E F B _ w.3 k.1 (below_to _ b w.0) m,
  above_known T q (n + 1 + statement_count p) l g E F B _ w.4 k.2 (below_to _ b w.1) m,
)
above_known T (Trap p) n l g E F B f w k b m = (
  record {
    go = known_above g _ k.0 b;
    ends = λ c. known_above _ _ (known_codes (Trap p) g F k c) ((above T (Trap p) n l g E F w b m).codes c);
    status = tt;
  },
  above_known T p (n + 1) l g E F B _ w.2 k.1 (below_to _ b w.0) m,
)
above_known T (Local s p) n l g E F B f w k b m =
    let c = T (StatusOf n l) in
    let d = above_decided T s p n l g E F w b m in (
      record {
        go = known_above g _ k.0 b;
        ends = λ j. known_above _ _ (known_codes (Local s p) g F k j) ((above T (Local s p) n l g E F w b m).codes j);
        status = known_above _ _ k.1 d;
      },
      above_known T p (n + 1) l g (with_status E s c) (with_status F s (tri_decided p g F s)) (bind B s n) _ w.3 k.2 (below_to _ b w.0)
          (with_status-more s (tri_decided p g F s) c m d),
    )
above_known T (Awake e p) n l g E F B f w k b m = absurd w
above_known T _ n l g E F B f w k b m =
    record { go = known_above g _ k b; ends = λ c. subst IsKnown (sym (w c)) (known_met (c == 0) _ (known_above g _ k b)); status = tt }
