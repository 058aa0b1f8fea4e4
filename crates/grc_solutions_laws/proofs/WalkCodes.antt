-- The code of a walk is a static code of its statement, started or resumed.
use Rattle.std.proofs.Common.{◌≡◌, ℕ, ◌+◌, Bool, true, false, ◌||◌, ◌==◌, cond, refl, sym, subst, ⊎_elim}
use Rattle.std.proofs.lemmas.Bool.{or_cases, or_left, or_right, and_from, eqb-true, eqb-false, eq-eqb, cond_both, false≢true, cond-true}
use Rattle.base_facts.proofs.Tests.{or-other}
use Rattle.base_types.specs.Codes.{either, except}
use Rattle.est_kernel.specs.Terms.{Term, Pause, Exit, Present, Suspend, Seq, Loop, Par, Trap, Local, Awake}
use Rattle.est_kernel.specs.Preorder.{statement_count}
use Rattle.est_kernel.specs.StaticCodes.{has_code, started_codes, resumed_codes, branch_codes, instant_loops, NoInstantLoop}
use Rattle.est_kernel.proofs.Exports.{except-in, maxima-in, lowered-in}
use Rattle.grc_graph.specs.Layers.{Layer, Resumed, Started, can_pass}
use Rattle.grc_graph.specs.Residuals.{holds}
use Rattle.grc_graph.specs.Walk.{Walk, Values, with_value, truth, ended, then_walk, started_walk, resumed_walk, selected_in}
use Rattle.grc_graph.specs.Selected.{HasExitCodes, IsSelected}
use Rattle.grc_solutions_laws.proofs.Residues.{no_loops-left, no_loops-right, loop_body, loop_code, resumed_live}

then_code : (P : ℕ → Type 0) (x y : Walk) → (x.code ≡ 0 → P y.code) → ((x.code ≡ 0 → ⊥) → P x.code) → P (then_walk x y).code
then_code P x y f g =
    cond_both (x.code == 0) (record { signals = λ t. x.signals t || y.signals t; code = y.code; kept = y.kept }) x
    (λ w. P w.code) (λ e. f (eqb-true x.code 0 e)) (λ e. g (eqb-false x.code 0 e))

choice_code : (P : ℕ → Type 0) (c : Bool) (x y : Walk) → (c ≡ true → P x.code) → (c ≡ false → P y.code) → P (cond c x y).code
choice_code P true x y f g = f refl
choice_code P false x y f g = g refl

pub started_code : (Z : ℕ → Layer → Bool) (t : Term) (n : ℕ) (l : Layer) (v : Values) → NoInstantLoop t → HasExitCodes t →
    started_codes t (started_walk Z t n l v).code ≡ true
started_code Z (Exit c) n l v nl k = eq-eqb c c refl
started_code Z (Present e p q) n l v nl k =
    choice_code (λ c. started_codes (Present e p q) c ≡ true) (truth e v) _ _
    (λ c. or_left _ _ (started_code Z p (n + 1) l v (no_loops-left (instant_loops p) (instant_loops q) nl) k.0))
    (λ c. or_right _ _ (started_code Z q (n + 1 + statement_count p) l v (no_loops-right (instant_loops p) (instant_loops q) nl) k.1))
started_code Z (Suspend e p) n l v nl k = started_code Z p (n + 1) l v nl k
started_code Z (Seq p q) n l v nl k =
    let x = started_walk Z p (n + 1) l v in
    let f = started_code Z p (n + 1) l v (no_loops-left (instant_loops p) (instant_loops q) nl) k.0 in
    let g = started_code Z q (n + 1 + statement_count p) l v (no_loops-right (instant_loops p) (instant_loops q) nl) k.1 in
    then_code (λ c. started_codes (Seq p q) c ≡ true) x _
    (λ z. in_second p q _ (subst (λ c. started_codes p c ≡ true) z f) g) (λ z. in_first p q _ f z)
  where
    in_second : (p q : Term) (c : ℕ) → started_codes p 0 ≡ true → started_codes q c ≡ true → started_codes (Seq p q) c ≡ true
    in_second p q c z h =
        subst (λ A. A c ≡ true) (sym (cond-true (started_codes p 0) (either (except 0 (started_codes p)) (started_codes q)) (started_codes p) z))
        (or_right _ _ h)

    in_first : (p q : Term) (c : ℕ) → started_codes p c ≡ true → (c ≡ 0 → ⊥) → started_codes (Seq p q) c ≡ true
    in_first p q c h z =
        cond_both (started_codes p 0) (either (except 0 (started_codes p)) (started_codes q)) (started_codes p) (λ A. A c ≡ true)
        (λ e. or_left _ _ (except-in (started_codes p) 0 c h z)) (λ e. h)
started_code Z (Loop at p) n l v nl k =
    let parts = loop_body at p nl in
    let f = started_code Z p (n + 1) l v parts.1 k in
    except-in (started_codes p) 0 _ f (loop_code p _ parts.0 f)
started_code Z (Par p q) n l v nl k =
    maxima-in (started_codes p) (started_codes q) _ _
    (started_code Z p (n + 1) l v (no_loops-left (instant_loops p) (instant_loops q) nl) k.0)
    (started_code Z q (n + 1 + statement_count p) l v (no_loops-right (instant_loops p) (instant_loops q) nl) k.1)
started_code Z (Trap p) n l v nl k = lowered-in (started_codes p) _ (started_code Z p (n + 1) l v nl k)
started_code Z (Local s p) n l v nl k = started_code Z p (n + 1) l (with_value v s (Z n l)) nl k
started_code Z (Awake e p) n l v nl k = absurd k
started_code Z _ n l v nl k = refl

branch_code : (c : Bool) (p : Term) (x : Walk) → (c || can_pass p) ≡ true → (c ≡ true → resumed_codes p x.code ≡ true) →
    branch_codes (started_codes p) (resumed_codes p) (cond c x (ended 0)).code ≡ true
branch_code true p x o f = or_left _ _ (f refl)
branch_code false p x o f = or_right (resumed_codes p 0) _ (and_from _ _ o refl)

pub resumed_code : (Z : ℕ → Layer → Bool) (S : ℕ → Bool) (t : Term) (n : ℕ) (v : Values) → NoInstantLoop t → HasExitCodes t → holds S t n ≡ true →
    IsSelected S t n → resumed_codes t (resumed_walk Z S t n v).code ≡ true
resumed_code Z S Pause n v nl k h s = refl
resumed_code Z S (Present e p q) n v nl k h s =
    choice_code (λ c. resumed_codes (Present e p q) c ≡ true) (holds S p (n + 1)) _ _
    (λ c. or_left _ _ (resumed_code Z S p (n + 1) v (no_loops-left (instant_loops p) (instant_loops q) nl) k.0 c (s.1 c)))
    (λ c. let d = or-other _ _ c h in
    or_right _ _ (resumed_code Z S q (n + 1 + statement_count p) v (no_loops-right (instant_loops p) (instant_loops q) nl) k.1 d (s.2 d)))
resumed_code Z S (Suspend e p) n v nl k h s =
    choice_code (λ c. resumed_codes (Suspend e p) c ≡ true) (truth e v)
    (record { signals = λ t. false; code = 1; kept = selected_in S p (n + 1) }) (resumed_walk Z S p (n + 1) v)
    (λ c. or_right _ _ (and_from _ _ (resumed_live S p (n + 1) nl k h s) refl))
    (λ c. or_left _ _ (resumed_code Z S p (n + 1) v nl k h s))
resumed_code Z S (Seq p q) n v nl k h s =
    let m = n + 1 + statement_count p in
    let np = no_loops-left (instant_loops p) (instant_loops q) nl in
    let nq = no_loops-right (instant_loops p) (instant_loops q) nl in
    let x = resumed_walk Z S p (n + 1) v in
    choice_code (λ c. resumed_codes (Seq p q) c ≡ true) (holds S p (n + 1)) (then_walk x (started_walk Z q m (Started m) v)) _
    (λ c.
    let f = resumed_code Z S p (n + 1) v np k.0 c (s.1 c) in
    then_code (λ j. resumed_codes (Seq p q) j ≡ true) x (started_walk Z q m (Started m) v)
    (λ z. or_right _ _ (or_left _ _ (and_from _ _ (subst (λ j. resumed_codes p j ≡ true) z f) (started_code Z q m (Started m) v nq k.1))))
    (λ z. or_left _ _ (except-in (resumed_codes p) 0 _ f z)))
    (λ c.
    let d = or-other _ _ c h in
    let u = s.2 d in
    or_right _ _ (or_right _ _ (and_from _ _ u.0 (resumed_code Z S q m v nq k.1 d u.1))))
resumed_code Z S (Loop at p) n v nl k h s =
    let parts = loop_body at p nl in
    let x = resumed_walk Z S p (n + 1) v in
    let f = resumed_code Z S p (n + 1) v parts.1 k h s in
    let g = started_code Z p (n + 1) (Started (n + 1)) v parts.1 k in
    then_code (λ j. resumed_codes (Loop at p) j ≡ true) x (started_walk Z p (n + 1) (Started (n + 1)) v)
    (λ z. or_right _ _ (and_from _ _ (subst (λ j. resumed_codes p j ≡ true) z f) (except-in (started_codes p) 0 _ g (loop_code p _ parts.0 g))))
    (λ z. or_left _ _ (except-in (resumed_codes p) 0 _ f z))
resumed_code Z S (Par p q) n v nl k h s =
    let m = n + 1 + statement_count p in
    let np = no_loops-left (instant_loops p) (instant_loops q) nl in
    let nq = no_loops-right (instant_loops p) (instant_loops q) nl in
    let A = branch_codes (started_codes p) (resumed_codes p) in
    let C = branch_codes (started_codes q) (resumed_codes q) in
    let live : (has_code (resumed_codes p) || has_code (resumed_codes q)) ≡ true =
    ⊎_elim (λ c. or_left _ _ (resumed_live S p (n + 1) np k.0 c (s.2 c))) (λ c. or_right _ _ (resumed_live S q m nq k.1 c (s.3 c)))
    (or_cases (holds S p (n + 1)) (holds S q m) h) in
    and_from _ _ live
    (maxima-in A C _ _
    (branch_code (holds S p (n + 1)) p (resumed_walk Z S p (n + 1) v) s.0 (λ c. resumed_code Z S p (n + 1) v np k.0 c (s.2 c)))
    (branch_code (holds S q m) q (resumed_walk Z S q m v) s.1 (λ c. resumed_code Z S q m v nq k.1 c (s.3 c))))
resumed_code Z S (Trap p) n v nl k h s = lowered-in (resumed_codes p) _ (resumed_code Z S p (n + 1) v nl k h s)
resumed_code Z S (Local x p) n v nl k h s = resumed_code Z S p (n + 1) (with_value v x (Z n Resumed)) nl k h s
resumed_code Z S (Awake e p) n v nl k h s = absurd k
resumed_code Z S _ n v nl k h s = absurd (false≢true h)
