-- The more is known of whether a term runs and of the signals, the more is known of its walk: one lemma per row, and
-- then one induction. The first lemmas, on statuses, stand in est_kernel as well, where they are private.
use Rattle.std.proofs.Common.{◌≡◌, ℕ, zero, suc, Bool, not, ◌==◌, refl, subst}
use Rattle.est_kernel.specs.Terms.{Term, Nothing, Pause, Emit, Exit, Present, Suspend, Seq, Loop, Par, Trap, Local, Awake}
use Rattle.est_kernel.specs.Statuses.{Status, Plus, Minus, Unknown, Environment, with_status, opposite, conjunction, value}
use Rattle.est_kernel.specs.Laws.{IsBelow}
use Rattle.est_kernel.proofs.Exports.{below_self, cond_below, conjunction_below, disjunction_below, knows_self, opposite_below, value_below, with_status-more}
use Rattle.est_ternary.specs.TriWalks.{Tri, where_met, tri_completes, tri_emits, tri_either, tri_in_turn, tri_upto, tri_together, tri_lowered}
use Rattle.est_ternary.specs.TriWalks.{tri_trapped, tri_hidden, tri}
use Rattle.est_ternary.specs.TriWalks.{tri_decided}
use Rattle.est_ternary.specs.Laws.{Below, WalksAreMonotone}

-- ---- statuses

pub below_equal : {v w : Status} → v ≡ w → IsBelow v w
below_equal {v} e = subst (λ x. IsBelow v x) e (below_self v)

pub met_below : (b : Bool) (v w : Status) → IsBelow v w → IsBelow (where_met b v) (where_met b w)
met_below b v w h = cond_below b v w Minus Minus h refl

-- ---- rows

pub below_itself : (a : Tri) → Below a a
below_itself a = record { signals = λ t. below_self (a.signals t); codes = λ k. below_self (a.codes k) }

pub completes_below : (c : ℕ) (g h : Status) → IsBelow g h → Below (tri_completes c g) (tri_completes c h)
completes_below c g h b = record { signals = λ t. refl; codes = λ k. met_below (k == c) g h b }

emits_below : (s : ℕ) (g h : Status) → IsBelow g h → Below (tri_emits s g) (tri_emits s h)
emits_below s g h b = record { signals = λ t. met_below (t == s) g h b; codes = λ k. met_below (k == 0) g h b }

pub either_below : {a b c d : Tri} → Below a c → Below b d → Below (tri_either a b) (tri_either c d)
either_below {a} {b} {c} {d} f g = record {
  signals = λ t. disjunction_below (a.signals t) (c.signals t) (b.signals t) (d.signals t) (f.signals t) (g.signals t);
  codes = λ k. disjunction_below (a.codes k) (c.codes k) (b.codes k) (d.codes k) (f.codes k) (g.codes k);
}

pub in_turn_below : {a b c d : Tri} → Below a c → Below b d → Below (tri_in_turn a b) (tri_in_turn c d)
in_turn_below {a} {b} {c} {d} f g = record {
  signals = λ t. disjunction_below (a.signals t) (c.signals t) (b.signals t) (d.signals t) (f.signals t) (g.signals t);
  codes = λ k. disjunction_below (where_met (not (k == 0)) (a.codes k)) (where_met (not (k == 0)) (c.codes k)) (b.codes k) (d.codes k)
      (met_below (not (k == 0)) (a.codes k) (c.codes k) (f.codes k)) (g.codes k);
}

pub upto_below : (A B : ℕ → Status) → ((k : ℕ) → IsBelow (A k) (B k)) → (k : ℕ) → IsBelow (tri_upto A k) (tri_upto B k)
upto_below A B f zero = f 0
upto_below A B f (suc k) =
    disjunction_below (tri_upto A k) (tri_upto B k) (A (suc k)) (B (suc k)) (upto_below A B f k) (f (suc k))

pub together_below : {a b c d : Tri} → Below a c → Below b d → Below (tri_together a b) (tri_together c d)
together_below {a} {b} {c} {d} f g = record {
  signals = λ t. disjunction_below (a.signals t) (c.signals t) (b.signals t) (d.signals t) (f.signals t) (g.signals t);
  codes = λ k. conjunction_below _ _ _ _ (upto_below a.codes c.codes f.codes k)
      (conjunction_below _ _ _ _ (upto_below b.codes d.codes g.codes k)
      (disjunction_below (a.codes k) (c.codes k) (b.codes k) (d.codes k) (f.codes k) (g.codes k)));
}

pub lowered_below : (A B : ℕ → Status) → ((k : ℕ) → IsBelow (A k) (B k)) → (k : ℕ) → IsBelow (tri_lowered A k) (tri_lowered B k)
lowered_below A B f zero = disjunction_below (A 0) (B 0) (A 2) (B 2) (f 0) (f 2)
lowered_below A B f (suc zero) = f 1
lowered_below A B f (suc (suc k)) = f (suc (suc (suc k)))

pub trapped_below : {a b : Tri} → Below a b → Below (tri_trapped a) (tri_trapped b)
trapped_below {a} {b} f = record { signals = f.signals; codes = lowered_below a.codes b.codes f.codes }

pub hidden_below : (s : ℕ) {a b : Tri} → Below a b → Below (tri_hidden s a) (tri_hidden s b)
hidden_below s {a} {b} f = record {
  signals = λ t. met_below (not (t == s)) (a.signals t) (b.signals t) (f.signals t);
  codes = f.codes;
}

pub choice_below : (g h v w : Status) → IsBelow g h → IsBelow v w → IsBelow (conjunction g (opposite v)) (conjunction h (opposite w))
choice_below g h v w b c = conjunction_below g h (opposite v) (opposite w) b (opposite_below v w c)

-- ---- the induction

pub walk_below : WalksAreMonotone
walk_below Nothing g h E F b m = completes_below 0 g h b
walk_below Pause g h E F b m = completes_below 1 g h b
walk_below (Emit s) g h E F b m = emits_below s g h b
walk_below (Exit c) g h E F b m = completes_below c g h b
walk_below (Present e p q) g h E F b m =
    let v = value_below e E F m in
    either_below
    (walk_below p _ _ E F (conjunction_below g h (value e E) (value e F) b v) m)
    (walk_below q _ _ E F (choice_below g h (value e E) (value e F) b v) m)
walk_below (Suspend e p) g h E F b m = walk_below p g h E F b m
walk_below (Seq p q) g h E F b m =
    let first = walk_below p g h E F b m in
    in_turn_below first (walk_below q _ _ E F (first.codes 0) m)
walk_below (Loop at p) g h E F b m = walk_below p g h E F b m
walk_below (Par p q) g h E F b m = together_below (walk_below p g h E F b m) (walk_below q g h E F b m)
walk_below (Trap p) g h E F b m = trapped_below (walk_below p g h E F b m)
walk_below (Local s p) g h E F b m =
    let v = (walk_below p g h (with_status E s Unknown) (with_status F s Unknown) b (with_status-more s Unknown Unknown m tt)).signals s in
    hidden_below s
    (walk_below p g h (with_status E s (tri_decided p g E s)) (with_status F s (tri_decided p h F s)) b
    (with_status-more s (tri_decided p g E s) (tri_decided p h F s) m v))
walk_below (Awake e p) g h E F b m =
    let v = value_below e E F m in
    either_below
    (completes_below 1 _ _ (conjunction_below g h (value e E) (value e F) b v))
    (walk_below p _ _ E F (choice_below g h (value e E) (value e F) b v) m)

-- ---- a local signal's status is the least that its own equation has

-- A monotone function of one status that is applied to what it makes of an unknown one makes that again.
pub settles_at_once : (f : Status → Status) → ((v w : Status) → IsBelow v w → IsBelow (f v) (f w)) → f (f Unknown) ≡ f Unknown
settles_at_once f m = by (f Unknown) refl
  where
    by : (v : Status) → f Unknown ≡ v → f v ≡ v
    by Plus e = subst (λ x. IsBelow x (f Plus)) e (m Unknown Plus tt)
    by Minus e = subst (λ x. IsBelow x (f Minus)) e (m Unknown Minus tt)
    by Unknown e = e

-- The walk of a body under the status that it gives to a local signal gives it again.
pub decided_again : (p : Term) (g : Status) (E : Environment) (s : ℕ) →
    (tri p g (with_status E s (tri_decided p g E s))).signals s ≡ tri_decided p g E s
decided_again p g E s =
    settles_at_once (λ v. (tri p g (with_status E s v)).signals s)
    (λ v w h. (walk_below p g g (with_status E s v) (with_status E s w) (below_self g) (with_status-more s v w (knows_self E) h)).signals s)
