-- The wires of a statement that is resumed, and the walk of what the selection leaves of it: as for started statements.
use Rattle.std.proofs.Common.{◌≡◌, ℕ, ◌+◌, Bool, true, false, not, ◌||◌, ◌==◌, ◌⊎◌, ⊎_elim, refl, ap, ◌∙◌, subst}
use Rattle.est_kernel.specs.Terms.{Term, Nothing, Pause, Emit, Exit, Present, Suspend, Seq, Loop, Par, Trap, Local, Awake}
use Rattle.est_kernel.specs.Statuses.{Status, Minus, Unknown, Environment, with_status, known, value, opposite, conjunction, disjunction}
use Rattle.est_kernel.specs.Preorder.{statement_count}
use Rattle.est_kernel.specs.Laws.{IsBelow, KnowsMore}
use Rattle.est_kernel.proofs.Exports.{below_self, conjunction-minus, conjunction_below, disjunction_below, knows_self, value_below, with_status-more}
use Rattle.grc_graph.specs.Layers.{Resumed, Started}
use Rattle.grc_graph.specs.Wires.{Go, StatusOf}
use Rattle.grc_graph.specs.Residuals.{holds}
use Rattle.est_ternary.specs.TriWalks.{Tri, where_met, tri_idle, tri_maxima, tri_lowered}
use Rattle.est_ternary.specs.Laws.{Below}
use Rattle.est_ternary.proofs.Exports.{below_itself, met_below, choice_below, lowered_below, walk_below, completes_below, either_below, in_turn_below}
use Rattle.est_ternary.proofs.Exports.{together_below, trapped_below, hidden_below, settles_at_once}
use Rattle.grc_ternary.specs.LeastSolutions.{Statuses}
use Rattle.grc_ternary.proofs.ResumedWalks.{over_codes, tri_branch, part_go, resumed_tri, resumed_decided, silent}
use Rattle.grc_ternary.proofs.StartedPlaces.{emits, ends, Follows, below_to, to_below, maxima_below, above, Under, under_ends, under_emits}
use Rattle.grc_ternary.proofs.StartedPlaces.{stays_under}

-- ---- the walk of what is left is monotone

over_below : (h : Bool) (g g' : Status) (A B : ℕ → Status) → IsBelow g g' → ((k : ℕ) → IsBelow (A k) (B k)) → (k : ℕ) →
    IsBelow (over_codes h g A k) (over_codes h g' B k)
over_below true g g' A B b f k = f k
over_below false g g' A B b f k = met_below (k == 0) g g' b

branch_below : (h : Bool) (g g' : Status) {a b : Tri} → IsBelow g g' → Below a b → Below (tri_branch h g a) (tri_branch h g' b)
branch_below h g g' {a} {b} i f = record { signals = f.signals; codes = over_below h g g' a.codes b.codes i f.codes }

pub part_below : (S : ℕ → Bool) (p : Term) (n : ℕ) (g g' : Status) → IsBelow g g' → IsBelow (part_go g S p n) (part_go g' S p n)
part_below S p n g g' b = conjunction_below g g' _ _ b (below_self (known (holds S p n)))

pub resumed_below : (S : ℕ → Bool) (t : Term) (n : ℕ) (g h : Status) (E F : Environment) → IsBelow g h → KnowsMore E F →
    Below (resumed_tri S t n g E) (resumed_tri S t n h F)
resumed_below S Pause n g h E F b m = completes_below 0 g h b
resumed_below S (Present e p q) n g h E F b m =
    let r = n + 1 + statement_count p in
    either_below (resumed_below S p (n + 1) _ _ E F (part_below S p (n + 1) g h b) m) (resumed_below S q r _ _ E F (part_below S q r g h b) m)
resumed_below S (Suspend e p) n g h E F b m =
    let v = value_below e E F m in
    either_below (completes_below 1 _ _ (conjunction_below g h (value e E) (value e F) b v))
    (resumed_below S p (n + 1) _ _ E F (choice_below g h (value e E) (value e F) b v) m)
resumed_below S (Seq p q) n g h E F b m =
    let r = n + 1 + statement_count p in
    let x = resumed_below S p (n + 1) _ _ E F (part_below S p (n + 1) g h b) m in
    either_below (in_turn_below x (walk_below q _ _ E F (x.codes 0) m)) (resumed_below S q r _ _ E F (part_below S q r g h b) m)
resumed_below S (Loop at p) n g h E F b m =
    let x = resumed_below S p (n + 1) g h E F b m in
    in_turn_below x (walk_below p _ _ E F (x.codes 0) m)
resumed_below S (Par p q) n g h E F b m =
    let r = n + 1 + statement_count p in
    together_below
    (branch_below (holds S p (n + 1)) g h b (resumed_below S p (n + 1) _ _ E F (part_below S p (n + 1) g h b) m))
    (branch_below (holds S q r) g h b (resumed_below S q r _ _ E F (part_below S q r g h b) m))
resumed_below S (Trap p) n g h E F b m = trapped_below (resumed_below S p (n + 1) g h E F b m)
resumed_below S (Local x p) n g h E F b m =
    let v = (resumed_below S p (n + 1) g h (with_status E x Unknown) (with_status F x Unknown) b (with_status-more x Unknown Unknown m tt)).signals x in
    hidden_below x
    (resumed_below S p (n + 1) g h (with_status E x (resumed_decided S p (n + 1) g E x)) (with_status F x (resumed_decided S p (n + 1) h F x)) b
    (with_status-more x (resumed_decided S p (n + 1) g E x) (resumed_decided S p (n + 1) h F x) m v))
resumed_below S _ n g h E F b m = below_itself tri_idle

resumed_again : (S : ℕ → Bool) (p : Term) (n : ℕ) (g : Status) (E : Environment) (s : ℕ) →
    (resumed_tri S p n g (with_status E s (resumed_decided S p n g E s))).signals s ≡ resumed_decided S p n g E s
resumed_again S p n g E s =
    settles_at_once (λ v. (resumed_tri S p n g (with_status E s v)).signals s)
    (λ v w h. (resumed_below S p n g g (with_status E s v) (with_status E s w) (below_self g) (with_status-more s v w (knows_self E) h)).signals s)

-- ---- the wires of a resumed statement

-- the statuses of the emissions in it: in what is resumed, and in what that starts at roots of its own
abbrev pub resumed_emits : Statuses → Term → ℕ → ℕ → Status
resumed_emits U (Present e p q) n s = disjunction (resumed_emits U p (n + 1) s) (resumed_emits U q (n + 1 + statement_count p) s)
resumed_emits U (Suspend e p) n s = resumed_emits U p (n + 1) s
resumed_emits U (Seq p q) n s =
    disjunction
    (disjunction (resumed_emits U p (n + 1) s) (emits U q (n + 1 + statement_count p) (Started (n + 1 + statement_count p)) s))
    (resumed_emits U q (n + 1 + statement_count p) s)
resumed_emits U (Loop at p) n s = disjunction (resumed_emits U p (n + 1) s) (emits U p (n + 1) (Started (n + 1)) s)
resumed_emits U (Par p q) n s = disjunction (resumed_emits U p (n + 1) s) (resumed_emits U q (n + 1 + statement_count p) s)
resumed_emits U (Trap p) n s = resumed_emits U p (n + 1) s
resumed_emits U (Local x p) n s = where_met (not (s == x)) (resumed_emits U p (n + 1) s)
resumed_emits U _ n s = Minus

abbrev pub resumed_place : Statuses → Term → ℕ → Tri
resumed_place U t n = record { signals = resumed_emits U t n; codes = ends U n Resumed }

-- the ends of a resumed parallel, where it has such an end; one that holds no selected pause may have none
abbrev pub over_ends : Statuses → Bool → ℕ → ℕ → ℕ → Status
over_ends U h n c = over_codes h (U (Go n Resumed)) (ends U c Resumed)

abbrev pub ParallelEnds : Statuses → Statuses → Bool → Bool → ℕ → ℕ → ℕ → ℕ → Type 0
ParallelEnds W U hp hq n c d k =
    (ends W n Resumed k ≡ tri_maxima (over_ends U hp n c) (over_ends U hq n d) k)
    ⊎ ((ends W n Resumed k ≡ Minus) × ((hp || hq) ≡ false))

-- The wires of a resumed statement at n, and of what it starts at roots of its own, follow by their equations.
abbrev pub FollowsResumed : Statuses → Statuses → (ℕ → Bool) → Term → ℕ → Environment → Type 0
FollowsResumed W U S Pause n E = (k : ℕ) → ends W n Resumed k ≡ where_met (k == 0) (U (Go n Resumed))
FollowsResumed W U S (Present e p q) n E =
    (W (Go (n + 1) Resumed) ≡ part_go (U (Go n Resumed)) S p (n + 1))
    × (W (Go (n + 1 + statement_count p) Resumed) ≡ part_go (U (Go n Resumed)) S q (n + 1 + statement_count p))
    × ((k : ℕ) → ends W n Resumed k ≡ disjunction (ends U (n + 1) Resumed k) (ends U (n + 1 + statement_count p) Resumed k))
    × FollowsResumed W U S p (n + 1) E
    × FollowsResumed W U S q (n + 1 + statement_count p) E
FollowsResumed W U S (Suspend e p) n E =
    (W (Go (n + 1) Resumed) ≡ conjunction (U (Go n Resumed)) (opposite (value e E)))
    × ((k : ℕ) → ends W n Resumed k ≡ disjunction (where_met (k == 1) (conjunction (U (Go n Resumed)) (value e E))) (ends U (n + 1) Resumed k))
    × FollowsResumed W U S p (n + 1) E
FollowsResumed W U S (Seq p q) n E =
    (W (Go (n + 1) Resumed) ≡ part_go (U (Go n Resumed)) S p (n + 1))
    × (W (Go (n + 1 + statement_count p) Resumed) ≡ part_go (U (Go n Resumed)) S q (n + 1 + statement_count p))
    × (W (Go (n + 1 + statement_count p) (Started (n + 1 + statement_count p))) ≡ ends U (n + 1) Resumed 0)
    × ((k : ℕ) → ends W n Resumed k ≡ disjunction
    (disjunction (where_met (not (k == 0)) (ends U (n + 1) Resumed k))
    (ends U (n + 1 + statement_count p) (Started (n + 1 + statement_count p)) k))
    (ends U (n + 1 + statement_count p) Resumed k))
    × FollowsResumed W U S p (n + 1) E
    × FollowsResumed W U S q (n + 1 + statement_count p) E
    × Follows W U q (n + 1 + statement_count p) (Started (n + 1 + statement_count p)) E
FollowsResumed W U S (Loop at p) n E =
    (W (Go (n + 1) Resumed) ≡ U (Go n Resumed))
    × (W (Go (n + 1) (Started (n + 1))) ≡ ends U (n + 1) Resumed 0)
    × ((k : ℕ) → ends W n Resumed k ≡ disjunction (where_met (not (k == 0)) (ends U (n + 1) Resumed k)) (ends U (n + 1) (Started (n + 1)) k))
    × FollowsResumed W U S p (n + 1) E
    × Follows W U p (n + 1) (Started (n + 1)) E
FollowsResumed W U S (Par p q) n E =
    (W (Go (n + 1) Resumed) ≡ part_go (U (Go n Resumed)) S p (n + 1))
    × (W (Go (n + 1 + statement_count p) Resumed) ≡ part_go (U (Go n Resumed)) S q (n + 1 + statement_count p))
    × ((k : ℕ) → ParallelEnds W U (holds S p (n + 1)) (holds S q (n + 1 + statement_count p)) n (n + 1) (n + 1 + statement_count p) k)
    × FollowsResumed W U S p (n + 1) E
    × FollowsResumed W U S q (n + 1 + statement_count p) E
FollowsResumed W U S (Trap p) n E =
    (W (Go (n + 1) Resumed) ≡ U (Go n Resumed))
    × ((k : ℕ) → ends W n Resumed k ≡ tri_lowered (ends U (n + 1) Resumed) k)
    × FollowsResumed W U S p (n + 1) E
FollowsResumed W U S (Local s p) n E =
    (W (Go (n + 1) Resumed) ≡ U (Go n Resumed))
    × ((k : ℕ) → ends W n Resumed k ≡ ends U (n + 1) Resumed k)
    × (W (StatusOf n Resumed) ≡ resumed_emits U p (n + 1) s)
    × FollowsResumed W U S p (n + 1) (with_status E s (U (StatusOf n Resumed)))
-- no body of a program has this form
FollowsResumed W U S (Awake e p) n E = ⊥
FollowsResumed W U S _ n E = (k : ℕ) → ends W n Resumed k ≡ Minus

-- ---- a solution knows at least what the walk knows

-- a part that holds no selected pause does not run
pub part_stops : (v : Status) {w : Status} (S : ℕ → Bool) (p : Term) (n : ℕ) → w ≡ part_go v S p n → holds S p n ≡ false → w ≡ Minus
part_stops v S p n e h = e ∙ ap (λ b. conjunction v (known b)) h ∙ conjunction-minus v

-- where the whole does not run, nothing of it ends
whole_stops : (S : ℕ → Bool) (t : Term) (n : ℕ) (g : Status) (F : Environment) → IsBelow g Minus → (k : ℕ) → IsBelow ((resumed_tri S t n g F).codes k) Minus
whole_stops S t n g F b k =
    subst (λ a. IsBelow ((resumed_tri S t n g F).codes k) (a.codes k)) (silent S t n F) ((resumed_below S t n g Minus F F b (knows_self F)).codes k)

pub above_resumed : (T : Statuses) (S : ℕ → Bool) (t : Term) (n : ℕ) (g : Status) (E F : Environment) → FollowsResumed T T S t n E →
    (holds S t n ≡ false → T (Go n Resumed) ≡ Minus) → IsBelow g (T (Go n Resumed)) → KnowsMore F E → Below (resumed_tri S t n g F) (resumed_place T t n)
above_resumed T S Pause n g E F f o b m = record { signals = λ s. refl; codes = λ k. below_to _ (met_below (k == 0) g _ b) (f k) }
above_resumed T S (Present e p q) n g E F f o b m =
    let r = n + 1 + statement_count p in
    let x = above_resumed T S p (n + 1) _ E F f.3 (part_stops _ S p (n + 1) f.0) (below_to _ (part_below S p (n + 1) g _ b) f.0) m in
    let y = above_resumed T S q r _ E F f.4 (part_stops _ S q r f.1) (below_to _ (part_below S q r g _ b) f.1) m in
    record {
      signals = λ s. disjunction_below _ _ _ _ (x.signals s) (y.signals s);
      codes = λ k. below_to _ (disjunction_below _ _ _ _ (x.codes k) (y.codes k)) (f.2 k);
    }
above_resumed T S (Suspend e p) n g E F f o b m =
    let v = value_below e F E m in
    let x = above_resumed T S p (n + 1) _ E F f.2 (λ h. f.0 ∙ ap (λ z. conjunction z (opposite (value e E))) (o h))
    (below_to _ (choice_below g _ (value e F) (value e E) b v) f.0) m in
    record {
      signals = x.signals;
      codes = λ k. below_to _ (disjunction_below _ _ _ _ (met_below (k == 1) _ _ (conjunction_below g _ (value e F) (value e E) b v)) (x.codes k)) (f.1 k);
    }
above_resumed T S (Seq p q) n g E F f o b m =
    let r = n + 1 + statement_count p in
    let x = above_resumed T S p (n + 1) _ E F f.4 (part_stops _ S p (n + 1) f.0) (below_to _ (part_below S p (n + 1) g _ b) f.0) m in
    let y = above_resumed T S q r _ E F f.5 (part_stops _ S q r f.1) (below_to _ (part_below S q r g _ b) f.1) m in
    let z = above T q r (Started r) _ E F f.6 (below_to _ (x.codes 0) f.2) m in
    record {
      signals = λ s. disjunction_below _ _ _ _ (disjunction_below _ _ _ _ (x.signals s) (z.signals s)) (y.signals s);
      codes = λ k. below_to _
          (disjunction_below _ _ _ _ (disjunction_below _ _ _ _ (met_below (not (k == 0)) _ _ (x.codes k)) (z.codes k)) (y.codes k)) (f.3 k);
    }
above_resumed T S (Loop at p) n g E F f o b m =
    let x = above_resumed T S p (n + 1) g E F f.3 (λ h. f.0 ∙ o h) (below_to _ b f.0) m in
    let z = above T p (n + 1) (Started (n + 1)) _ E F f.4 (below_to _ (x.codes 0) f.1) m in
    record {
      signals = λ s. disjunction_below _ _ _ _ (x.signals s) (z.signals s);
      codes = λ k. below_to _ (disjunction_below _ _ _ _ (met_below (not (k == 0)) _ _ (x.codes k)) (z.codes k)) (f.2 k);
    }
above_resumed T S (Par p q) n g E F f o b m =
    let r = n + 1 + statement_count p in
    let hp = holds S p (n + 1) in
    let hq = holds S q r in
    let x = above_resumed T S p (n + 1) _ E F f.3 (part_stops _ S p (n + 1) f.0) (below_to _ (part_below S p (n + 1) g _ b) f.0) m in
    let y = above_resumed T S q r _ E F f.4 (part_stops _ S q r f.1) (below_to _ (part_below S q r g _ b) f.1) m in
    record {
      signals = λ s. disjunction_below _ _ _ _ (x.signals s) (y.signals s);
      codes = λ k.
          ⊎_elim
          (λ e. below_to _ (maxima_below _ _ _ _ (over_below hp g _ _ _ b x.codes) (over_below hq g _ _ _ b y.codes) k) e)
          (λ e. below_to _ (whole_stops S (Par p q) n g F (subst (λ v. IsBelow g v) (o e.1) b) k) e.0)
          (f.2 k);
    }
above_resumed T S (Trap p) n g E F f o b m =
    let x = above_resumed T S p (n + 1) g E F f.2 (λ h. f.0 ∙ o h) (below_to _ b f.0) m in
    record { signals = x.signals; codes = λ k. below_to _ (lowered_below _ _ x.codes k) (f.1 k) }
above_resumed T S (Local s p) n g E F f o b m =
    let c = T (StatusOf n Resumed) in
    let d = (above_resumed T S p (n + 1) g (with_status E s c) (with_status F s Unknown) f.3 (λ h. f.0 ∙ o h) (below_to _ b f.0)
    (with_status-more s Unknown c m tt)).signals s in
    let x = above_resumed T S p (n + 1) g (with_status E s c) (with_status F s (resumed_decided S p (n + 1) g F s)) f.3 (λ h. f.0 ∙ o h) (below_to _ b f.0)
    (with_status-more s (resumed_decided S p (n + 1) g F s) c m (below_to _ d f.2)) in
    record {
      signals = λ t. met_below (not (t == s)) _ _ (x.signals t);
      codes = λ k. below_to _ (x.codes k) (f.1 k);
    }
above_resumed T S (Awake e p) n g E F f o b m = absurd f
above_resumed T S _ n g E F f o b m = record { signals = λ s. refl; codes = f }

pub above_resumed_decided : (T : Statuses) (S : ℕ → Bool) (s : ℕ) (p : Term) (n : ℕ) (g : Status) (E F : Environment) → FollowsResumed T T S (Local s p) n E →
    (holds S p (n + 1) ≡ false → T (Go n Resumed) ≡ Minus) → IsBelow g (T (Go n Resumed)) → KnowsMore F E →
    IsBelow (resumed_decided S p (n + 1) g F s) (T (StatusOf n Resumed))
above_resumed_decided T S s p n g E F f o b m =
    let c = T (StatusOf n Resumed) in
    below_to _ ((above_resumed T S p (n + 1) g (with_status E s c) (with_status F s Unknown) f.3 (λ h. f.0 ∙ o h) (below_to _ b f.0)
    (with_status-more s Unknown c m tt)).signals s) f.2

-- ---- statuses that know no more than the walk

abbrev pub UnderHere : Statuses → (ℕ → Bool) → Term → ℕ → Status → Environment → Type 0
UnderHere U S t n g F = IsBelow (U (Go n Resumed)) g × ((k : ℕ) → IsBelow (ends U n Resumed k) ((resumed_tri S t n g F).codes k))

abbrev pub UnderResumed : Statuses → (ℕ → Bool) → Term → ℕ → Status → Environment → Type 0
UnderResumed U S (Present e p q) n g F =
    UnderHere U S (Present e p q) n g F
    × UnderResumed U S p (n + 1) (part_go g S p (n + 1)) F
    × UnderResumed U S q (n + 1 + statement_count p) (part_go g S q (n + 1 + statement_count p)) F
UnderResumed U S (Suspend e p) n g F =
    UnderHere U S (Suspend e p) n g F × UnderResumed U S p (n + 1) (conjunction g (opposite (value e F))) F
UnderResumed U S (Seq p q) n g F =
    UnderHere U S (Seq p q) n g F
    × UnderResumed U S p (n + 1) (part_go g S p (n + 1)) F
    × UnderResumed U S q (n + 1 + statement_count p) (part_go g S q (n + 1 + statement_count p)) F
    × Under U q (n + 1 + statement_count p) (Started (n + 1 + statement_count p)) ((resumed_tri S p (n + 1) (part_go g S p (n + 1)) F).codes 0) F
UnderResumed U S (Loop at p) n g F =
    UnderHere U S (Loop at p) n g F
    × UnderResumed U S p (n + 1) g F
    × Under U p (n + 1) (Started (n + 1)) ((resumed_tri S p (n + 1) g F).codes 0) F
UnderResumed U S (Par p q) n g F =
    UnderHere U S (Par p q) n g F
    × UnderResumed U S p (n + 1) (part_go g S p (n + 1)) F
    × UnderResumed U S q (n + 1 + statement_count p) (part_go g S q (n + 1 + statement_count p)) F
UnderResumed U S (Trap p) n g F = UnderHere U S (Trap p) n g F × UnderResumed U S p (n + 1) g F
UnderResumed U S (Local s p) n g F =
    UnderHere U S (Local s p) n g F
    × IsBelow (U (StatusOf n Resumed)) (resumed_decided S p (n + 1) g F s)
    × UnderResumed U S p (n + 1) g (with_status F s (resumed_decided S p (n + 1) g F s))
-- no body of a program has this form
UnderResumed U S (Awake e p) n g F = ⊥
UnderResumed U S t n g F = UnderHere U S t n g F × Unit {0}

pub under_here : (U : Statuses) (S : ℕ → Bool) (t : Term) (n : ℕ) (g : Status) (F : Environment) → UnderResumed U S t n g F → UnderHere U S t n g F
under_here U S (Awake e p) n g F u = absurd u
under_here U S _ n g F u = u.0

pub under_resumed_emits : (U : Statuses) (S : ℕ → Bool) (t : Term) (n : ℕ) (g : Status) (F : Environment) → UnderResumed U S t n g F → (s : ℕ) →
    IsBelow (resumed_emits U t n s) ((resumed_tri S t n g F).signals s)
under_resumed_emits U S (Present e p q) n g F u s =
    disjunction_below _ _ _ _ (under_resumed_emits U S p (n + 1) _ F u.1 s) (under_resumed_emits U S q (n + 1 + statement_count p) _ F u.2 s)
under_resumed_emits U S (Suspend e p) n g F u s = under_resumed_emits U S p (n + 1) _ F u.1 s
under_resumed_emits U S (Seq p q) n g F u s =
    let r = n + 1 + statement_count p in
    disjunction_below _ _ _ _
    (disjunction_below _ _ _ _ (under_resumed_emits U S p (n + 1) _ F u.1 s) (under_emits U q r (Started r) _ F u.3 s))
    (under_resumed_emits U S q r _ F u.2 s)
under_resumed_emits U S (Loop at p) n g F u s =
    disjunction_below _ _ _ _ (under_resumed_emits U S p (n + 1) g F u.1 s) (under_emits U p (n + 1) (Started (n + 1)) _ F u.2 s)
under_resumed_emits U S (Par p q) n g F u s =
    disjunction_below _ _ _ _ (under_resumed_emits U S p (n + 1) _ F u.1 s) (under_resumed_emits U S q (n + 1 + statement_count p) _ F u.2 s)
under_resumed_emits U S (Trap p) n g F u s = under_resumed_emits U S p (n + 1) g F u.1 s
under_resumed_emits U S (Local x p) n g F u s =
    met_below (not (s == x)) _ _ (under_resumed_emits U S p (n + 1) g (with_status F x (resumed_decided S p (n + 1) g F x)) u.2 s)
under_resumed_emits U S (Awake e p) n g F u s = absurd u
under_resumed_emits U S _ n g F u s = refl

-- what is below the codes of a part
part_ends : (U : Statuses) (S : ℕ → Bool) (t : Term) (n : ℕ) (g : Status) (F : Environment) → UnderResumed U S t n g F → (k : ℕ) →
    IsBelow (ends U n Resumed k) ((resumed_tri S t n g F).codes k)
part_ends U S t n g F u = (under_here U S t n g F u).1

pub part_silent : (S : ℕ → Bool) (p : Term) (n : ℕ) (g : Status) → holds S p n ≡ false → part_go g S p n ≡ Minus
part_silent S p n g h = ap (λ b. conjunction g (known b)) h ∙ conjunction-minus g

pub stays_resumed : (W U : Statuses) (S : ℕ → Bool) (t : Term) (n : ℕ) (g : Status) (E F : Environment) → FollowsResumed W U S t n E → KnowsMore E F →
    (holds S t n ≡ false → g ≡ Minus) → UnderResumed U S t n g F → IsBelow (W (Go n Resumed)) g → UnderResumed W S t n g F
stays_resumed W U S Pause n g E F f m o u h = ((h, λ k. to_below _ (met_below (k == 0) _ g u.0.0) (f k)), tt)
stays_resumed W U S (Present e p q) n g E F f m o u h =
    let r = n + 1 + statement_count p in (
      (h, λ k. to_below _ (disjunction_below _ _ _ _ (part_ends U S p (n + 1) _ F u.1 k) (part_ends U S q r _ F u.2 k)) (f.2 k)),
      stays_resumed W U S p (n + 1) _ E F f.3 m (part_silent S p (n + 1) g) u.1 (to_below _ (part_below S p (n + 1) _ g u.0.0) f.0),
      stays_resumed W U S q r _ E F f.4 m (part_silent S q r g) u.2 (to_below _ (part_below S q r _ g u.0.0) f.1),
    )
stays_resumed W U S (Suspend e p) n g E F f m o u h =
    let v = value_below e E F m in (
      (
        h,
        λ k. to_below _
            (disjunction_below _ _ _ _ (met_below (k == 1) _ _ (conjunction_below _ g (value e E) (value e F) u.0.0 v)) (part_ends U S p (n + 1) _ F u.1 k))
            (f.1 k),
      ),
      stays_resumed W U S p (n + 1) _ E F f.2 m (λ z. ap (λ w. conjunction w (opposite (value e F))) (o z)) u.1
          (to_below _ (choice_below _ g (value e E) (value e F) u.0.0 v) f.0),
    )
stays_resumed W U S (Seq p q) n g E F f m o u h =
    let r = n + 1 + statement_count p in (
      (
        h,
        λ k. to_below _
            (disjunction_below _ _ _ _
            (disjunction_below _ _ _ _ (met_below (not (k == 0)) _ _ (part_ends U S p (n + 1) _ F u.1 k)) (under_ends U q r (Started r) _ F u.3 k))
            (part_ends U S q r _ F u.2 k))
            (f.3 k),
      ),
      stays_resumed W U S p (n + 1) _ E F f.4 m (part_silent S p (n + 1) g) u.1 (to_below _ (part_below S p (n + 1) _ g u.0.0) f.0),
      stays_resumed W U S q r _ E F f.5 m (part_silent S q r g) u.2 (to_below _ (part_below S q r _ g u.0.0) f.1),
      stays_under W U q r (Started r) _ E F f.6 m u.3 (to_below _ (part_ends U S p (n + 1) _ F u.1 0) f.2),
    )
stays_resumed W U S (Loop at p) n g E F f m o u h = (
  (
    h,
    λ k. to_below _
        (disjunction_below _ _ _ _ (met_below (not (k == 0)) _ _ (part_ends U S p (n + 1) g F u.1 k)) (under_ends U p (n + 1) (Started (n + 1)) _ F u.2 k))
        (f.2 k),
  ),
  stays_resumed W U S p (n + 1) g E F f.3 m o u.1 (to_below _ u.0.0 f.0),
  stays_under W U p (n + 1) (Started (n + 1)) _ E F f.4 m u.2 (to_below _ (part_ends U S p (n + 1) g F u.1 0) f.1),
)
stays_resumed W U S (Par p q) n g E F f m o u h =
    let r = n + 1 + statement_count p in
    let hp = holds S p (n + 1) in
    let hq = holds S q r in (
      (
        h,
        λ k.
            ⊎_elim
            (λ e. to_below _
            (maxima_below _ _ _ _ (over_below hp _ g _ _ u.0.0 (part_ends U S p (n + 1) _ F u.1))
            (over_below hq _ g _ _ u.0.0 (part_ends U S q r _ F u.2)) k) e)
            (λ e. to_below _ (ap (λ v. (resumed_tri S (Par p q) n v F).codes k) (o e.1) ∙ ap (λ a. a.codes k) (silent S (Par p q) n F)) e.0)
            (f.2 k),
      ),
      stays_resumed W U S p (n + 1) _ E F f.3 m (part_silent S p (n + 1) g) u.1 (to_below _ (part_below S p (n + 1) _ g u.0.0) f.0),
      stays_resumed W U S q r _ E F f.4 m (part_silent S q r g) u.2 (to_below _ (part_below S q r _ g u.0.0) f.1),
    )
stays_resumed W U S (Trap p) n g E F f m o u h = (
  (h, λ k. to_below _ (lowered_below _ _ (part_ends U S p (n + 1) g F u.1) k) (f.1 k)),
  stays_resumed W U S p (n + 1) g E F f.2 m o u.1 (to_below _ u.0.0 f.0),
)
stays_resumed W U S (Local s p) n g E F f m o u h =
    let d = resumed_decided S p (n + 1) g F s in
    let G = with_status F s d in (
      (h, λ k. to_below _ (part_ends U S p (n + 1) g G u.2 k) (f.1 k)),
      to_below _ (subst (λ v. IsBelow (resumed_emits U p (n + 1) s) v) (resumed_again S p (n + 1) g F s) (under_resumed_emits U S p (n + 1) g G u.2 s)) f.2,
      stays_resumed W U S p (n + 1) g (with_status E s (U (StatusOf n Resumed))) G f.3 (with_status-more s (U (StatusOf n Resumed)) d m u.1) o u.2
          (to_below _ u.0.0 f.0),
    )
stays_resumed W U S (Awake e p) n g E F f m o u h = absurd f
stays_resumed W U S _ n g E F f m o u h = ((h, λ k. to_below Minus refl (f k)), tt)
