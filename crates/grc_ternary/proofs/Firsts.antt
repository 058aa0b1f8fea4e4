-- The first stage, in which nothing is known of any wire and what is no wire is false, knows no more than the walk: a
-- code that a statement does not have is none of its walk either.
use Rattle.std.proofs.Common.{◌≡◌, ℕ, ◌+◌, ◌≤◌, Bool, true, false, ◌&&◌, List, refl, sym, ap, ◌∙◌}
use Rattle.std.proofs.Common.{subst, ⊎_elim, arith}
use Rattle.std.proofs.lemmas.Bool.{and_parts, or_left, or_right, both_ways, false_from_ne_true, cases_Bool}
use Rattle.est_kernel.specs.Terms.{Term, Nothing, Pause, Emit, Exit, Present, Suspend, Seq, Loop, Par, Trap, Local, Awake}
use Rattle.est_kernel.specs.Statuses.{Status, Plus, Minus, Unknown, Environment, with_status, value, opposite, conjunction}
use Rattle.est_kernel.specs.Preorder.{statement_count}
use Rattle.est_kernel.specs.StaticCodes.{has_code, started_codes, resumed_codes, instant_loops, NoInstantLoop}
use Rattle.est_kernel.specs.Laws.{IsBelow}
use Rattle.est_kernel.proofs.Exports.{may_keeps_static_codes_lem, can_lies_in_may_lem}
use Rattle.grc_graph.specs.Layers.{Layer, Resumed, Started, Liveness, part_liveness, second_liveness, loop_liveness, can_pass}
use Rattle.grc_graph.specs.Scopes.{Scope, bind}
use Rattle.grc_graph.specs.Wires.{Go, StatusOf, End, instance_codes}
use Rattle.grc_graph.specs.Formulas.{Formula}
use Rattle.grc_graph.specs.Spots.{Spot}
use Rattle.grc_graph.specs.Residuals.{holds, residual}
use Rattle.grc_graph.specs.Selected.{HasExitCodes, IsSelected}
use Rattle.grc_graph.proofs.Exports.{Agrees, only_agrees, first_agrees, second_agrees}
use Rattle.grc_solutions.proofs.Exports.{EachStarted, EachResumed}
use Rattle.grc_solutions_laws.proofs.Exports.{no_loops-left, no_loops-right, loop_body, resumed_live, residual_static, residual_codes, head_started}
use Rattle.grc_solutions_laws.proofs.Exports.{head_resumed}
use Rattle.est_ternary.specs.TriWalks.{tri, tri_decided}
use Rattle.est_ternary.specs.Laws.{possible}
use Rattle.est_ternary.proofs.Exports.{impossible, walk_tells, code_at, silent_codes, silent_signals, below_equal}
use Rattle.grc_ternary.specs.LeastSolutions.{Statuses}
use Rattle.grc_ternary.proofs.ResumedWalks.{part_go, part_off, resumed_tri, resumed_decided, silent, left_walk}
use Rattle.grc_ternary.proofs.StartedPlaces.{ends, Under}
use Rattle.grc_ternary.proofs.ResumedPlaces.{UnderHere, UnderResumed, part_silent}
use Rattle.grc_ternary.proofs.Quiet.{on_part, off_part}
use Rattle.grc_ternary.proofs.Quiet.{AllMinus, Quiet, OffLayers, DeepQuiet, LowRoots, has_root, quiet_only, quiet_first, quiet_second, deep_only}
use Rattle.grc_ternary.proofs.Quiet.{deep_first, deep_second}
use Rattle.grc_ternary.proofs.Quiet.{start_quiet, deep_quiet, second_root_off, own_root_off, own_loop_off, low_more, low_second, low_loop}
use Rattle.grc_ternary.proofs.ResumedEquations.{suspend_lives, loop_lives, trap_lives}

-- ---- static codes

-- a code that is none of a term's static codes is none of its walk
pub not_static : (t : Term) (g : Status) (F : Environment) (k : ℕ) → NoInstantLoop t → started_codes t k ≡ false → (tri t g F).codes k ≡ Minus
not_static t Plus F k nl e =
    impossible _ (code_at possible _ _ (walk_tells t Plus F).possible k
    ∙ false_from_ne_true _ (λ h. both_ways (started_codes t k) e (may_keeps_static_codes_lem t F nl k ((can_lies_in_may_lem t F).codes k h))))
not_static t Minus F k nl e = silent_codes t F k
not_static t Unknown F k nl e =
    impossible _ (code_at possible _ _ (walk_tells t Unknown F).possible k
    ∙ false_from_ne_true _ (λ h. both_ways (started_codes t k) e (may_keeps_static_codes_lem t F nl k h)))

-- the same of what is left of a statement
pub not_resumed : (S : ℕ → Bool) (t : Term) (n : ℕ) (g : Status) (F : Environment) (k : ℕ) → NoInstantLoop t → HasExitCodes t →
    (holds S t n ≡ true → IsSelected S t n) → (holds S t n ≡ false → g ≡ Minus) → resumed_codes t k ≡ false → (resumed_tri S t n g F).codes k ≡ Minus
not_resumed S t n g F k nl kn sel o e =
    ⊎_elim
    (λ h. ap (λ a. a.codes k) (left_walk S t n g F (sel h) h)
    ∙ not_static (residual S t n) g F k (residual_static S t n nl)
    (false_from_ne_true _ (λ c. both_ways (resumed_codes t k) e (residual_codes S t n nl kn h (sel h) k c))))
    (λ h. ap (λ v. (resumed_tri S t n v F).codes k) (o h) ∙ ap (λ a. a.codes k) (silent S t n F))
    (cases_Bool (holds S t n))

-- ---- what is quiet is below a walk that does not run

quiet_here : (U : Statuses) (t : Term) (n : ℕ) (l : Layer) (F : Environment) → AllMinus U n l → (k : ℕ) → IsBelow (ends U n l k) ((tri t Minus F).codes k)
quiet_here U t n l F q k = below_equal (q.2 k ∙ sym (silent_codes t F k))

pub quiet_under : (U : Statuses) (t : Term) (n : ℕ) (l : Layer) (F : Environment) → HasExitCodes t → Quiet U l n (statement_count t) → Under U t n l Minus F
quiet_under U (Present e p p2) n l F k q =
    let h = q.at n (omega arith) (omega arith) in (
      below_equal h.0,
      quiet_here U (Present e p p2) n l F h,
      quiet_under U p (n + 1) l F k.0 (quiet_first n _ _ q),
      quiet_under U p2 (n + 1 + statement_count p) l F k.1 (quiet_second n _ _ q),
    )
quiet_under U (Suspend e p) n l F k q =
    let h = q.at n (omega arith) (omega arith) in (below_equal h.0, quiet_here U p n l F h, quiet_under U p (n + 1) l F k (quiet_only n _ q))
quiet_under U (Seq p p2) n l F k q =
    let h = q.at n (omega arith) (omega arith) in
    let m = n + 1 + statement_count p in (
      below_equal h.0,
      quiet_here U (Seq p p2) n l F h,
      quiet_under U p (n + 1) l F k.0 (quiet_first n _ _ q),
      subst (λ g. Under U p2 m l g F) (sym (silent_codes p F 0)) (quiet_under U p2 m l F k.1 (quiet_second n _ _ q)),
    )
quiet_under U (Loop at p) n l F k q =
    let h = q.at n (omega arith) (omega arith) in (below_equal h.0, quiet_here U p n l F h, quiet_under U p (n + 1) l F k (quiet_only n _ q))
quiet_under U (Par p p2) n l F k q =
    let h = q.at n (omega arith) (omega arith) in (
      below_equal h.0,
      quiet_here U (Par p p2) n l F h,
      quiet_under U p (n + 1) l F k.0 (quiet_first n _ _ q),
      quiet_under U p2 (n + 1 + statement_count p) l F k.1 (quiet_second n _ _ q),
    )
quiet_under U (Trap p) n l F k q =
    let h = q.at n (omega arith) (omega arith) in (below_equal h.0, quiet_here U (Trap p) n l F h, quiet_under U p (n + 1) l F k (quiet_only n _ q))
quiet_under U (Local s p) n l F k q =
    let h = q.at n (omega arith) (omega arith) in (
      below_equal h.0,
      quiet_here U (Local s p) n l F h,
      below_equal (h.1 ∙ sym (silent_signals p (with_status F s Unknown) s)),
      quiet_under U p (n + 1) l (with_status F s (tri_decided p Minus F s)) k (quiet_only n _ q),
    )
quiet_under U (Awake e p) n l F k q = absurd k
quiet_under U t n l F k q = let h = q.at n (omega arith) (omega arith) in (below_equal h.0, quiet_here U t n l F h)

deep_here : (U : Statuses) (S : ℕ → Bool) (t : Term) (n : ℕ) (F : Environment) → AllMinus U n Resumed → UnderHere U S t n Minus F
deep_here U S t n F q = (below_equal q.0, λ k. below_equal (q.2 k ∙ sym (ap (λ a. a.codes k) (silent S t n F))))

pub deep_under : (U : Statuses) (S : ℕ → Bool) (t : Term) (n : ℕ) (F : Environment) → HasExitCodes t → DeepQuiet U n (statement_count t) →
    UnderResumed U S t n Minus F
deep_under U S (Present e p q) n F k d = (
  deep_here U S (Present e p q) n F (d.resumed.at n (omega arith) (omega arith)),
  deep_under U S p (n + 1) F k.0 (deep_first n _ _ d),
  deep_under U S q (n + 1 + statement_count p) F k.1 (deep_second n _ _ d),
)
deep_under U S (Suspend e p) n F k d =
    (deep_here U S (Suspend e p) n F (d.resumed.at n (omega arith) (omega arith)), deep_under U S p (n + 1) F k (deep_only n _ d))
deep_under U S (Seq p q) n F k d =
    let m = n + 1 + statement_count p in (
      deep_here U S (Seq p q) n F (d.resumed.at n (omega arith) (omega arith)),
      deep_under U S p (n + 1) F k.0 (deep_first n _ _ d),
      deep_under U S q m F k.1 (deep_second n _ _ d),
      subst (λ a. Under U q m (Started m) (a.codes 0) F) (sym (silent S p (n + 1) F))
          (quiet_under U q m (Started m) F k.1 (quiet_second n _ _ (d.own m (omega arith)))),
    )
deep_under U S (Loop at p) n F k d = (
  deep_here U S (Loop at p) n F (d.resumed.at n (omega arith) (omega arith)),
  deep_under U S p (n + 1) F k (deep_only n _ d),
  subst (λ a. Under U p (n + 1) (Started (n + 1)) (a.codes 0) F) (sym (silent S p (n + 1) F))
      (quiet_under U p (n + 1) (Started (n + 1)) F k (quiet_only n _ (d.own (n + 1) (omega arith)))),
)
deep_under U S (Par p q) n F k d = (
  deep_here U S (Par p q) n F (d.resumed.at n (omega arith) (omega arith)),
  deep_under U S p (n + 1) F k.0 (deep_first n _ _ d),
  deep_under U S q (n + 1 + statement_count p) F k.1 (deep_second n _ _ d),
)
deep_under U S (Trap p) n F k d =
    (deep_here U S (Trap p) n F (d.resumed.at n (omega arith) (omega arith)), deep_under U S p (n + 1) F k (deep_only n _ d))
deep_under U S (Local s p) n F k d =
    let h = d.resumed.at n (omega arith) (omega arith) in (
      deep_here U S (Local s p) n F h,
      below_equal (h.1 ∙ sym (ap (λ a. a.signals s) (silent S p (n + 1) (with_status F s Unknown)))),
      deep_under U S p (n + 1) (with_status F s (resumed_decided S p (n + 1) Minus F s)) k (deep_only n _ d),
    )
deep_under U S (Awake e p) n F k d = absurd k
deep_under U S t n F k d = (deep_here U S t n F (d.resumed.at n (omega arith) (omega arith)), tt)

-- ---- nothing is known of the wires of an instance

abbrev pub StatusNew : Statuses → Term → ℕ → Layer → Type 0
StatusNew U (Local s p) n l = U (StatusOf n l) ≡ Unknown
StatusNew U t n l = Unit {0}

pub record New (U : Statuses) (x : Spot) : Type 0 where
  pub go : U (Go x.path x.layer) ≡ Unknown
  pub ends : (k : ℕ) → instance_codes x.statement x.layer k ≡ true → U (End x.path x.layer k) ≡ Unknown
  pub status : StatusNew U x.statement x.path x.layer
  pub dead : (k : ℕ) → instance_codes x.statement x.layer k ≡ false → U (End x.path x.layer k) ≡ Minus

unknown_below : (v w : Status) → v ≡ Unknown → IsBelow v w
unknown_below v w e = subst (λ x. IsBelow x w) (sym e) tt

module _ (L : ℕ → List Layer) (U : Statuses) (o : OffLayers L U) where
  new_ends : (B : Scope) (f : Layer → Formula) (t : Term) (n r : ℕ) (g : Status) (F : Environment) → NoInstantLoop t → HasExitCodes t →
      EachStarted (New U) B f t n (Started r) → (k : ℕ) → IsBelow (ends U n (Started r) k) ((tri t g F).codes k)
  new_ends B f t n r g F nl kn x k =
      let h = head_started (New U) B f t n (Started r) kn x in
      ⊎_elim (λ e. unknown_below _ _ (h.ends k e)) (λ e. below_equal (h.dead k e ∙ sym (not_static t g F k nl e))) (cases_Bool (started_codes t k))

  new_go : (B : Scope) (f : Layer → Formula) (t : Term) (n r : ℕ) (g : Status) → HasExitCodes t → EachStarted (New U) B f t n (Started r) →
      IsBelow (U (Go n (Started r))) g
  new_go B f t n r g kn x = unknown_below _ _ (head_started (New U) B f t n (Started r) kn x).go

  pub first_started : (a : Liveness) (t : Term) (B : Scope) (f : Layer → Formula) (n r : ℕ) (g : Status) (F : Environment) → Agrees L a t n → r ≤ n →
      NoInstantLoop t → HasExitCodes t → EachStarted (New U) B f t n (Started r) → Under U t n (Started r) g F
  first_started a (Present e p q) B f n r g F ag l nl k x =
      let m = n + 1 + statement_count p in
      let t = Present e p q in
      let b = part_liveness a p in
      let d = part_liveness a q in (
        new_go B f t n r g k x,
        new_ends B f t n r g F nl k x,
        first_started b p B _ (n + 1) r _ F (first_agrees L a b d t p q n refl (λ j. refl) ag) (omega arith)
            (no_loops-left (instant_loops p) (instant_loops q) nl) k.0 x.1,
        first_started d q B _ m r _ F (second_agrees L a b d t p q n refl (λ j. refl) ag) (omega arith)
            (no_loops-right (instant_loops p) (instant_loops q) nl) k.1 x.2,
      )
  first_started a (Suspend e p) B f n r g F ag l nl k x =
      let b = part_liveness a p in (
        new_go B f (Suspend e p) n r g k x,
        new_ends B f (Suspend e p) n r g F nl k x,
        first_started b p B _ (n + 1) r g F (only_agrees L a b (Suspend e p) p n refl (λ j. refl) ag) (omega arith) nl k x.1,
      )
  first_started a (Seq p q) B f n r g F ag l nl k x =
      let m = n + 1 + statement_count p in
      let t = Seq p q in
      let b = part_liveness a p in
      let d = second_liveness a p q m in
      let np = no_loops-left (instant_loops p) (instant_loops q) nl in
      let agq = second_agrees L a b d t p q n refl (λ j. refl) ag in (
        new_go B f t n r g k x,
        new_ends B f t n r g F nl k x,
        first_started b p B _ (n + 1) r g F (first_agrees L a b d t p q n refl (λ j. refl) ag) (omega arith) np k.0 x.1,
        ⊎_elim
            (λ z. first_started d q B _ m r _ F agq (omega arith) (no_loops-right (instant_loops p) (instant_loops q) nl) k.1 (x.2 z))
            (λ z. subst (λ v. Under U q m (Started r) v F) (sym (not_static p g F 0 np z))
            (quiet_under U q m (Started r) F k.1 (start_quiet L U o r d q m agq (second_root_off r n m a p q (omega arith) l z) (λ y. omega arith))))
            (cases_Bool (started_codes p 0)),
      )
  first_started a (Loop at p) B f n r g F ag l nl k x =
      let b = loop_liveness a p (n + 1) in
      let parts = loop_body at p nl in (
        new_go B f (Loop at p) n r g k x,
        new_ends B f (Loop at p) n r g F nl k x,
        first_started b p B _ (n + 1) r g F (only_agrees L a b (Loop at p) p n refl (λ j. refl) ag) (omega arith) parts.1 k x.1,
      )
  first_started a (Par p q) B f n r g F ag l nl k x =
      let m = n + 1 + statement_count p in
      let t = Par p q in
      let b = part_liveness a p in
      let d = part_liveness a q in (
        new_go B f t n r g k x,
        new_ends B f t n r g F nl k x,
        first_started b p B _ (n + 1) r g F (first_agrees L a b d t p q n refl (λ j. refl) ag) (omega arith)
            (no_loops-left (instant_loops p) (instant_loops q) nl) k.0 x.1,
        first_started d q B _ m r g F (second_agrees L a b d t p q n refl (λ j. refl) ag) (omega arith)
            (no_loops-right (instant_loops p) (instant_loops q) nl) k.1 x.2,
      )
  first_started a (Trap p) B f n r g F ag l nl k x =
      let b = part_liveness a p in (
        new_go B f (Trap p) n r g k x,
        new_ends B f (Trap p) n r g F nl k x,
        first_started b p B _ (n + 1) r g F (only_agrees L a b (Trap p) p n refl (λ j. refl) ag) (omega arith) nl k x.1,
      )
  first_started a (Local s p) B f n r g F ag l nl k x =
      let b = part_liveness a p in (
        new_go B f (Local s p) n r g k x,
        new_ends B f (Local s p) n r g F nl k x,
        unknown_below _ _ x.0.status,
        first_started b p (bind B s n) _ (n + 1) r g (with_status F s (tri_decided p g F s)) (only_agrees L a b (Local s p) p n refl (λ j. refl) ag)
            (omega arith) nl k x.1,
      )
  first_started a (Awake e p) B f n r g F ag l nl k x = absurd k
  first_started a t B f n r g F ag l nl k x = (new_go B f t n r g k x, new_ends B f t n r g F nl k x)

  module _ (S : ℕ → Bool) where
    abbrev Sel : Term → ℕ → Type 0
    Sel t n = holds S t n ≡ true → IsSelected S t n

    new_here : (B : Scope) (f : Layer → Formula) (t : Term) (n : ℕ) (g : Status) (F : Environment) → NoInstantLoop t → HasExitCodes t → Sel t n →
        (holds S t n ≡ false → g ≡ Minus) → EachResumed (New U) B f t n → UnderHere U S t n g F
    new_here B f t n g F nl kn sel ho x =
        let h = head_resumed (New U) B f t n kn x in (
          unknown_below _ _ h.go,
          λ k. ⊎_elim (λ e. unknown_below _ _ (h.ends k e)) (λ e. below_equal (h.dead k e ∙ sym (not_resumed S t n g F k nl kn sel ho e)))
              (cases_Bool (resumed_codes t k)),
        )

    -- a part that has an instance where gd says so
    part_first : (c : ℕ) (p : Term) (b : Liveness) (gd : Bool) (g : Status) (F : Environment) → HasExitCodes p → Agrees L b p c
        → (gd ≡ false → b.resumed ≡ false) →
        LowRoots b.roots c → (holds S p c ≡ true → gd ≡ true) → (gd ≡ true → UnderResumed U S p c (part_go g S p c) F)
        → UnderResumed U S p c (part_go g S p c) F
    part_first c p b gd g F k ag off low lives f =
        ⊎_elim f
        (λ z. subst (λ v. UnderResumed U S p c v F)
        (sym (part_off g S p c (false_from_ne_true (holds S p c) (λ h. both_ways gd z (lives h)))))
        (deep_under U S p c F k (deep_quiet L U o b p c ag (off z) low)))
        (cases_Bool gd)

    -- what is started at a root of its own, where gd says that the first part can end
    own_first : (m : ℕ) (p : Term) (b : Liveness) (gd : Bool) (v : Status) (F : Environment) → HasExitCodes p → Agrees L b p m →
        (gd ≡ false → has_root m b.roots ≡ false) → (gd ≡ false → v ≡ Minus) → (gd ≡ true → Under U p m (Started m) v F) → Under U p m (Started m) v F
    own_first m p b gd v F k ag rootless e f =
        ⊎_elim f
        (λ z. subst (λ w. Under U p m (Started m) w F) (sym (e z))
        (quiet_under U p m (Started m) F k (start_quiet L U o m b p m ag (rootless z) (λ i. omega arith))))
        (cases_Bool gd)

    pub first_resumed : (a : Liveness) (t : Term) (B : Scope) (f : Layer → Formula) (n : ℕ) (g : Status) (F : Environment) → Agrees L a t n → a.resumed ≡ true →
        LowRoots a.roots n → has_code (resumed_codes t) ≡ true → NoInstantLoop t → HasExitCodes t → Sel t n → (holds S t n ≡ false → g ≡ Minus) →
        EachResumed (New U) B f t n → UnderResumed U S t n g F
    first_resumed a (Present e p q) B f n g F ag i low live nl k sel ho x =
        let m = n + 1 + statement_count p in
        let t = Present e p q in
        let b = part_liveness a p in
        let d = part_liveness a q in
        let agp = first_agrees L a b d t p q n refl (λ j. refl) ag in
        let agq = second_agrees L a b d t p q n refl (λ j. refl) ag in
        let np = no_loops-left (instant_loops p) (instant_loops q) nl in
        let nq = no_loops-right (instant_loops p) (instant_loops q) nl in
        let selp : Sel p (n + 1) = λ h. (sel (or_left _ _ h)).1 h in
        let selq : Sel q m = λ h. (sel (or_right (holds S p (n + 1)) _ h)).2 h in
        let lowp = low_more a.roots n (n + 1) (omega arith) low in
        let lowq = low_more a.roots n m (omega arith) low in (
          new_here B f t n g F nl k sel ho x,
          part_first (n + 1) p b (has_code (resumed_codes p)) g F k.0 agp (off_part a _) lowp (λ h. resumed_live S p (n + 1) np k.0 h (selp h))
              (λ z. first_resumed b p B _ (n + 1) _ F agp (on_part a _ i z) lowp z np k.0 selp (part_silent S p (n + 1) g) (x.1 z)),
          part_first m q d (has_code (resumed_codes q)) g F k.1 agq (off_part a _) lowq (λ h. resumed_live S q m nq k.1 h (selq h))
              (λ z. first_resumed d q B _ m _ F agq (on_part a _ i z) lowq z nq k.1 selq (part_silent S q m g) (x.2 z)),
        )
    first_resumed a (Suspend e p) B f n g F ag i low live nl k sel ho x =
        let b = part_liveness a p in
        let on = suspend_lives (resumed_codes p) live in (
          new_here B f (Suspend e p) n g F nl k sel ho x,
          first_resumed b p B _ (n + 1) _ F (only_agrees L a b (Suspend e p) p n refl (λ j. refl) ag) (on_part a _ i on)
              (low_more a.roots n (n + 1) (omega arith) low) on nl k sel (λ h. ap (λ v. conjunction v (opposite (value e F))) (ho h)) (x.1 on),
        )
    first_resumed a (Seq p q) B f n g F ag i low live nl k sel ho x =
        let m = n + 1 + statement_count p in
        let t = Seq p q in
        let b = part_liveness a p in
        let d = second_liveness a p q m in
        let agp = first_agrees L a b d t p q n refl (λ j. refl) ag in
        let agq = second_agrees L a b d t p q n refl (λ j. refl) ag in
        let np = no_loops-left (instant_loops p) (instant_loops q) nl in
        let nq = no_loops-right (instant_loops p) (instant_loops q) nl in
        let selp : Sel p (n + 1) = λ h. (sel (or_left _ _ h)).1 h in
        let selq : Sel q m = λ h. ((sel (or_right (holds S p (n + 1)) _ h)).2 h).1 in
        let lowp = low_more a.roots n (n + 1) (omega arith) low in
        let lowq = low_second a p q n m (omega arith) low in (
          new_here B f t n g F nl k sel ho x,
          part_first (n + 1) p b (has_code (resumed_codes p)) g F k.0 agp (off_part a _) lowp (λ h. resumed_live S p (n + 1) np k.0 h (selp h))
              (λ z. first_resumed b p B _ (n + 1) _ F agp (on_part a _ i z) lowp z np k.0 selp (part_silent S p (n + 1) g) (x.1 z)),
          part_first m q d (can_pass p && has_code (resumed_codes q)) g F k.1 agq (off_part a _) lowq
              (λ h. let u = (sel (or_right (holds S p (n + 1)) _ h)).2 h in
              ap (λ c. c && has_code (resumed_codes q)) u.0 ∙ resumed_live S q m nq k.1 h u.1)
              (λ z. first_resumed d q B _ m _ F agq (on_part a _ i z) lowq (and_parts (can_pass p) _ z).1 nq k.1 selq (part_silent S q m g) (x.2 z)),
          own_first m q d (resumed_codes p 0) _ F k.1 agq (λ z. own_root_off n m a p q (low m (omega arith)) (off_part a _ z))
              (λ z. not_resumed S p (n + 1) _ F 0 np k.0 selp (part_silent S p (n + 1) g) z)
              (λ z. first_started d q B _ m m _ F agq (omega arith) nq k.1 (x.3 z)),
        )
    first_resumed a (Loop at p) B f n g F ag i low live nl k sel ho x =
        let b = loop_liveness a p (n + 1) in
        let agp = only_agrees L a b (Loop at p) p n refl (λ j. refl) ag in
        let parts = loop_body at p nl in
        let on = loop_lives p k live in (
          new_here B f (Loop at p) n g F nl k sel ho x,
          first_resumed b p B _ (n + 1) g F agp (on_part a _ i on) (low_loop a p n low) on parts.1 k sel ho (x.1 on),
          own_first (n + 1) p b (resumed_codes p 0) _ F k agp (λ z. own_loop_off n a p (low (n + 1) (omega arith)) (off_part a _ z))
              (λ z. not_resumed S p (n + 1) g F 0 parts.1 k sel ho z)
              (λ z. first_started b p B _ (n + 1) (n + 1) _ F agp (omega arith) parts.1 k (x.2 z)),
        )
    first_resumed a (Par p q) B f n g F ag i low live nl k sel ho x =
        let m = n + 1 + statement_count p in
        let t = Par p q in
        let b = part_liveness a p in
        let d = part_liveness a q in
        let agp = first_agrees L a b d t p q n refl (λ j. refl) ag in
        let agq = second_agrees L a b d t p q n refl (λ j. refl) ag in
        let np = no_loops-left (instant_loops p) (instant_loops q) nl in
        let nq = no_loops-right (instant_loops p) (instant_loops q) nl in
        let selp : Sel p (n + 1) = λ h. (sel (or_left _ _ h)).2 h in
        let selq : Sel q m = λ h. (sel (or_right (holds S p (n + 1)) _ h)).3 h in
        let lowp = low_more a.roots n (n + 1) (omega arith) low in
        let lowq = low_more a.roots n m (omega arith) low in (
          new_here B f t n g F nl k sel ho x,
          part_first (n + 1) p b (has_code (resumed_codes p)) g F k.0 agp (off_part a _) lowp (λ h. resumed_live S p (n + 1) np k.0 h (selp h))
              (λ z. first_resumed b p B _ (n + 1) _ F agp (on_part a _ i z) lowp z np k.0 selp (part_silent S p (n + 1) g) (x.1 z)),
          part_first m q d (has_code (resumed_codes q)) g F k.1 agq (off_part a _) lowq (λ h. resumed_live S q m nq k.1 h (selq h))
              (λ z. first_resumed d q B _ m _ F agq (on_part a _ i z) lowq z nq k.1 selq (part_silent S q m g) (x.2 z)),
        )
    first_resumed a (Trap p) B f n g F ag i low live nl k sel ho x =
        let b = part_liveness a p in
        let on = trap_lives p k live in (
          new_here B f (Trap p) n g F nl k sel ho x,
          first_resumed b p B _ (n + 1) g F (only_agrees L a b (Trap p) p n refl (λ j. refl) ag) (on_part a _ i on)
              (low_more a.roots n (n + 1) (omega arith) low) on nl k sel ho (x.1 on),
        )
    first_resumed a (Local s p) B f n g F ag i low live nl k sel ho x =
        let b = part_liveness a p in (
          new_here B f (Local s p) n g F nl k sel ho x,
          unknown_below _ _ x.0.status,
          first_resumed b p (bind B s n) _ (n + 1) g (with_status F s (resumed_decided S p (n + 1) g F s))
              (only_agrees L a b (Local s p) p n refl (λ j. refl) ag) (on_part a _ i live) (low_more a.roots n (n + 1) (omega arith) low) live nl k sel ho
              (x.1 live),
        )
    first_resumed a (Awake e p) B f n g F ag i low live nl k sel ho x = absurd k
    first_resumed a t B f n g F ag i low live nl k sel ho x = (new_here B f t n g F nl k sel ho x, tt)
