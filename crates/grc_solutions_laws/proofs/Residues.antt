-- What is left of a statement that holds a selected pause: its loops are not instantaneous, and its static codes are
-- resumed codes of the statement.
use Rattle.std.proofs.Common.{◌≡◌, ℕ, ◌+◌, ◌≤◌, Bool, true, false, ◌||◌, ◌==◌, cond, max, refl, sym, ap, ◌∙◌, subst, ⊎_elim, arith, List, [], ◌∷◌, ◌++◌}
use Rattle.std.proofs.lemmas.Bool.{or_cases, or_left, or_right, and_from, eqb-true, eqb-false, eq-eqb, cond_both, false≢true, cases_Bool}
use Rattle.base_facts.proofs.Tests.{or-other}
use Rattle.base_types.specs.declared.place.Span.{Span}
use Rattle.base_types.specs.Codes.{either, except}
use Rattle.est_kernel.specs.Terms.{Term, Pause, Exit, Present, Suspend, Seq, Loop, Par, Trap, Local, Awake}
use Rattle.est_kernel.specs.Preorder.{statement_count}
use Rattle.est_kernel.specs.Steps.{trap_code}
use Rattle.est_kernel.specs.StaticCodes.{has_code, started_codes, resumed_codes, branch_codes, instant_loops, NoInstantLoop}
use Rattle.est_kernel.proofs.Exports.{except-in, except-parts, upto-in, maxima-in, maxima-subset, lowered-in, lowered-subset, trap_code-most}
use Rattle.grc_graph.specs.Layers.{can_pass}
use Rattle.grc_graph.specs.Residuals.{holds, left_if, residual}
use Rattle.grc_graph.specs.Selected.{HasExitCodes, IsSelected}

pub no_loops-left : (xs ys : List Span) → xs ++ ys ≡ [] → xs ≡ []
no_loops-left [] ys e = refl
no_loops-left (x ∷ xs) ys e = cc

pub no_loops-right : (xs ys : List Span) → xs ++ ys ≡ [] → ys ≡ []
no_loops-right [] ys e = e
no_loops-right (x ∷ xs) ys e = cc

pub no_loops-both : (xs ys : List Span) → xs ≡ [] → ys ≡ [] → xs ++ ys ≡ []
no_loops-both xs ys e f = ap (λ zs. zs ++ ys) e ∙ f

not_instant : (c : Bool) (at : Span) (xs : List Span) → (cond c (at ∷ []) [] ++ xs) ≡ [] → c ≡ false
not_instant true at xs e = cc
not_instant false at xs e = refl

pub loop_body : (at : Span) (p : Term) → NoInstantLoop (Loop at p) → (started_codes p 0 ≡ false) × NoInstantLoop p
loop_body at p nl = (
  not_instant (started_codes p 0) at (instant_loops p) nl,
  no_loops-right (cond (started_codes p 0) (at ∷ []) []) (instant_loops p) nl,
)

-- a code of the loop's body is no termination
pub loop_code : (p : Term) (k : ℕ) → started_codes p 0 ≡ false → started_codes p k ≡ true → k ≡ 0 → ⊥
loop_code p k e h z = false≢true (sym e ∙ subst (λ i. started_codes p i ≡ true) z h)

-- a set has a code below 64
abbrev pub SomeCode : (ℕ → Bool) → Type 0
SomeCode A = (k : ℕ) × (k ≤ 63) × (A k ≡ true)

pub some_has : (A : ℕ → Bool) → SomeCode A → has_code A ≡ true
some_has A s = upto-in A s.0 63 s.2 s.1

-- every statement has a code at its start
pub started_some : (t : Term) → NoInstantLoop t → HasExitCodes t → SomeCode (started_codes t)
started_some Pause nl b = (1, omega arith, refl)
started_some (Exit k) nl b = (k, omega (arith, b.1), eq-eqb k k refl)
started_some (Present e p q) nl b =
    let r = started_some p (no_loops-left (instant_loops p) (instant_loops q) nl) b.0 in
    (r.0, r.1, or_left _ _ r.2)
started_some (Suspend e p) nl b = started_some p nl b
started_some (Seq p q) nl b =
    let r = started_some p (no_loops-left (instant_loops p) (instant_loops q) nl) b.0 in
    let s = started_some q (no_loops-right (instant_loops p) (instant_loops q) nl) b.1 in
    cond_both (started_codes p 0) (either (except 0 (started_codes p)) (started_codes q)) (started_codes p)
    (λ A. SomeCode A) (λ e. (s.0, s.1, or_right _ _ s.2)) (λ e. r)
started_some (Loop at p) nl b =
    let parts = loop_body at p nl in
    let r = started_some p parts.1 b in
    (r.0, r.1, except-in (started_codes p) 0 r.0 r.2 (loop_code p r.0 parts.0 r.2))
started_some (Par p q) nl b =
    let r = started_some p (no_loops-left (instant_loops p) (instant_loops q) nl) b.0 in
    let s = started_some q (no_loops-right (instant_loops p) (instant_loops q) nl) b.1 in
    (max r.0 s.0, omega (arith, r.1, s.1), maxima-in (started_codes p) (started_codes q) r.0 s.0 r.2 s.2)
started_some (Trap p) nl b =
    let r = started_some p nl b in
    (trap_code r.0, omega (arith, r.1, trap_code-most r.0), lowered-in (started_codes p) r.0 r.2)
started_some (Local s p) nl b = started_some p nl b
started_some (Awake e p) nl b = absurd b
started_some _ nl b = (0, omega arith, refl)

-- the codes of a resumed sequence and loop
seq_first : (p q : Term) (k : ℕ) → resumed_codes p k ≡ true → (k ≡ 0 → ⊥) → resumed_codes (Seq p q) k ≡ true
seq_first p q k h n = or_left _ _ (except-in (resumed_codes p) 0 k h n)

seq_restart : (p q : Term) (k : ℕ) → resumed_codes p 0 ≡ true → started_codes q k ≡ true → resumed_codes (Seq p q) k ≡ true
seq_restart p q k z h = or_right _ _ (or_left _ _ (and_from _ _ z h))

seq_second : (p q : Term) (k : ℕ) → can_pass p ≡ true → resumed_codes q k ≡ true → resumed_codes (Seq p q) k ≡ true
seq_second p q k z h = or_right _ _ (or_right _ _ (and_from _ _ z h))

-- a branch of a resumed parallel that holds nothing can be over
branch_held : (p : Term) (k : ℕ) → resumed_codes p k ≡ true → branch_codes (started_codes p) (resumed_codes p) k ≡ true
branch_held p k h = or_left _ _ h

branch_over : (p : Term) → can_pass p ≡ true → branch_codes (started_codes p) (resumed_codes p) 0 ≡ true
branch_over p h = or_right (resumed_codes p 0) _ (and_from _ _ h refl)

-- the static codes of a sequence
turn_codes : (p q r t : Term) (k : ℕ) → ((i : ℕ) → started_codes r i ≡ true → resumed_codes p i ≡ true) →
    (resumed_codes p k ≡ true → (k ≡ 0 → ⊥) → resumed_codes t k ≡ true) → (resumed_codes p 0 ≡ true → started_codes q k ≡ true → resumed_codes t k ≡ true) →
    started_codes (Seq r q) k ≡ true → resumed_codes t k ≡ true
turn_codes p q r t k f first second =
    cond_both (started_codes r 0) (either (except 0 (started_codes r)) (started_codes q)) (started_codes r)
    (λ A. A k ≡ true → resumed_codes t k ≡ true)
    (λ z e.
    ⊎_elim
    (λ c. let d = except-parts (started_codes r) 0 k c in first (f k d.0) d.1)
    (λ c. second (f 0 z) c)
    (or_cases (except 0 (started_codes r) k) (started_codes q k) e))
    (λ z e. first (f k e) (λ i. false≢true (sym z ∙ subst (λ j. started_codes r j ≡ true) i e)))

abbrev pub CodesFrom : Term → Term → ℕ → Type 0
CodesFrom r t k = started_codes r k ≡ true → resumed_codes t k ≡ true

module _ (S : ℕ → Bool) where
  -- the codes of a branch of a parallel that holds or can be over
  branch_some : (p : Term) (n : ℕ) → (holds S p n || can_pass p) ≡ true → (holds S p n ≡ true → SomeCode (resumed_codes p)) →
      SomeCode (branch_codes (started_codes p) (resumed_codes p))
  branch_some p n h f =
      ⊎_elim (λ e. let r = f e in (r.0, r.1, branch_held p r.0 r.2)) (λ e. (0, omega arith, branch_over p e))
      (or_cases (holds S p n) (can_pass p) h)

  -- a statement that holds a selected pause has a resumed code
  pub resumed_some : (t : Term) (n : ℕ) → NoInstantLoop t → HasExitCodes t → holds S t n ≡ true → IsSelected S t n → SomeCode (resumed_codes t)
  resumed_some Pause n nl b h s = (0, omega arith, refl)
  resumed_some (Present e p q) n nl b h s =
      ⊎_elim
      (λ c. let r = resumed_some p (n + 1) (no_loops-left (instant_loops p) (instant_loops q) nl) b.0 c (s.1 c) in
      (r.0, r.1, or_left _ _ r.2))
      (λ c. let r = resumed_some q (n + 1 + statement_count p) (no_loops-right (instant_loops p) (instant_loops q) nl) b.1 c (s.2 c) in
      (r.0, r.1, or_right _ _ r.2))
      (or_cases (holds S p (n + 1)) (holds S q (n + 1 + statement_count p)) h)
  resumed_some (Suspend e p) n nl b h s =
      let r = resumed_some p (n + 1) nl b h s in (r.0, r.1, or_left _ _ r.2)
  resumed_some (Seq p q) n nl b h s =
      ⊎_elim
      (λ c. let r = resumed_some p (n + 1) (no_loops-left (instant_loops p) (instant_loops q) nl) b.0 c (s.1 c) in
      let o = started_some q (no_loops-right (instant_loops p) (instant_loops q) nl) b.1 in
      ⊎_elim
      (λ z. (o.0, o.1, seq_restart p q o.0 (subst (λ k. resumed_codes p k ≡ true) (eqb-true r.0 0 z) r.2) o.2))
      (λ z. (r.0, r.1, seq_first p q r.0 r.2 (eqb-false r.0 0 z)))
      (cases_Bool (r.0 == 0)))
      (λ c.
      let d = s.2 c in
      let r = resumed_some q (n + 1 + statement_count p) (no_loops-right (instant_loops p) (instant_loops q) nl) b.1 c d.1 in
      (r.0, r.1, seq_second p q r.0 d.0 r.2))
      (or_cases (holds S p (n + 1)) (holds S q (n + 1 + statement_count p)) h)
  resumed_some (Loop at p) n nl b h s =
      let parts = loop_body at p nl in
      let r = resumed_some p (n + 1) parts.1 b h s in
      let o = started_some p parts.1 b in
      ⊎_elim
      (λ z. (
        o.0,
        o.1,
        or_right _ _
            (and_from _ _ (subst (λ k. resumed_codes p k ≡ true) (eqb-true r.0 0 z) r.2)
            (except-in (started_codes p) 0 o.0 o.2 (loop_code p o.0 parts.0 o.2))),
      ))
      (λ z. (r.0, r.1, or_left _ _ (except-in (resumed_codes p) 0 r.0 r.2 (eqb-false r.0 0 z))))
      (cases_Bool (r.0 == 0))
  resumed_some (Par p q) n nl b h s =
      let f = resumed_some p (n + 1) (no_loops-left (instant_loops p) (instant_loops q) nl) b.0 in
      let g = resumed_some q (n + 1 + statement_count p) (no_loops-right (instant_loops p) (instant_loops q) nl) b.1 in
      let x = branch_some p (n + 1) s.0 (λ c. f c (s.2 c)) in
      let y = branch_some q (n + 1 + statement_count p) s.1 (λ c. g c (s.3 c)) in
      let live : (has_code (resumed_codes p) || has_code (resumed_codes q)) ≡ true =
      ⊎_elim (λ c. or_left _ _ (some_has (resumed_codes p) (f c (s.2 c)))) (λ c. or_right _ _ (some_has (resumed_codes q) (g c (s.3 c))))
      (or_cases (holds S p (n + 1)) (holds S q (n + 1 + statement_count p)) h) in (
        max x.0 y.0,
        omega (arith, x.1, y.1),
        and_from _ _ live (maxima-in (branch_codes (started_codes p) (resumed_codes p))
            (branch_codes (started_codes q) (resumed_codes q)) x.0 y.0 x.2 y.2),
      )
  resumed_some (Trap p) n nl b h s =
      let r = resumed_some p (n + 1) nl b h s in
      (trap_code r.0, omega (arith, r.1, trap_code-most r.0), lowered-in (resumed_codes p) r.0 r.2)
  resumed_some (Local x p) n nl b h s = resumed_some p (n + 1) nl b h s
  resumed_some (Awake e p) n nl b h s = absurd b
  resumed_some _ n nl b h s = absurd (false≢true h)

  pub resumed_live : (t : Term) (n : ℕ) → NoInstantLoop t → HasExitCodes t → holds S t n ≡ true → IsSelected S t n → has_code (resumed_codes t) ≡ true
  resumed_live t n nl b h s = some_has (resumed_codes t) (resumed_some t n nl b h s)

  -- the loops of what is left
  left_static : (b : Bool) (r : Term) → (b ≡ true → NoInstantLoop r) → NoInstantLoop (left_if b r)
  left_static true r h = h refl
  left_static false r h = refl

  pub residual_static : (t : Term) (n : ℕ) → NoInstantLoop t → NoInstantLoop (residual S t n)
  residual_static (Present e p q) n nl =
      cond_both (holds S p (n + 1)) (residual S p (n + 1)) (residual S q (n + 1 + statement_count p)) NoInstantLoop
      (λ c. residual_static p (n + 1) (no_loops-left (instant_loops p) (instant_loops q) nl))
      (λ c. residual_static q (n + 1 + statement_count p) (no_loops-right (instant_loops p) (instant_loops q) nl))
  residual_static (Suspend e p) n nl = residual_static p (n + 1) nl
  residual_static (Seq p q) n nl =
      cond_both (holds S p (n + 1)) (Seq (residual S p (n + 1)) q) (residual S q (n + 1 + statement_count p)) NoInstantLoop
      (λ c. no_loops-both (instant_loops (residual S p (n + 1))) (instant_loops q)
      (residual_static p (n + 1) (no_loops-left (instant_loops p) (instant_loops q) nl))
      (no_loops-right (instant_loops p) (instant_loops q) nl))
      (λ c. residual_static q (n + 1 + statement_count p) (no_loops-right (instant_loops p) (instant_loops q) nl))
  residual_static (Loop at p) n nl =
      no_loops-both (instant_loops (residual S p (n + 1))) (instant_loops (Loop at p))
      (residual_static p (n + 1) (loop_body at p nl).1) nl
  residual_static (Par p q) n nl =
      no_loops-both (instant_loops (left_if (holds S p (n + 1)) (residual S p (n + 1)))) _
      (left_static (holds S p (n + 1)) _ (λ c. residual_static p (n + 1) (no_loops-left (instant_loops p) (instant_loops q) nl)))
      (left_static (holds S q (n + 1 + statement_count p)) _
      (λ c. residual_static q (n + 1 + statement_count p) (no_loops-right (instant_loops p) (instant_loops q) nl)))
  residual_static (Trap p) n nl = residual_static p (n + 1) nl
  residual_static (Local s p) n nl = residual_static p (n + 1) nl
  residual_static _ n nl = refl

  -- the static codes of what is left
  left_codes : (b : Bool) (r p : Term) → (b || can_pass p) ≡ true → (b ≡ true → (k : ℕ) → started_codes r k ≡ true → resumed_codes p k ≡ true) → (k : ℕ) →
      started_codes (left_if b r) k ≡ true → branch_codes (started_codes p) (resumed_codes p) k ≡ true
  left_codes true r p o h k e = branch_held p k (h refl k e)
  left_codes false r p o h k e =
      subst (λ i. branch_codes (started_codes p) (resumed_codes p) i ≡ true) (sym (eqb-true k 0 e)) (branch_over p o)

  pub residual_codes : (t : Term) (n : ℕ) → NoInstantLoop t → HasExitCodes t → holds S t n ≡ true → IsSelected S t n → (k : ℕ) → CodesFrom (residual S t n) t k
  residual_codes Pause n nl b h s k = λ e. e
  residual_codes (Present x p q) n nl b h s k =
      cond_both (holds S p (n + 1)) (residual S p (n + 1)) (residual S q (n + 1 + statement_count p))
      (λ t. started_codes t k ≡ true → resumed_codes (Present x p q) k ≡ true)
      (λ c e. or_left _ _ (residual_codes p (n + 1) (no_loops-left (instant_loops p) (instant_loops q) nl) b.0 c (s.1 c) k e))
      (λ c e.
      let d = or-other _ _ c h in
      or_right _ _ (residual_codes q (n + 1 + statement_count p) (no_loops-right (instant_loops p) (instant_loops q) nl) b.1 d (s.2 d) k e))
  residual_codes (Suspend x p) n nl b h s k = λ e.
      ⊎_elim
      (λ c. or_right _ _ (and_from _ _ (resumed_live p (n + 1) nl b h s) c))
      (λ c. or_left _ _ (residual_codes p (n + 1) nl b h s k c))
      (or_cases (k == 1) (started_codes (residual S p (n + 1)) k) e)
  residual_codes (Seq p q) n nl b h s k =
      let np = no_loops-left (instant_loops p) (instant_loops q) nl in
      let nq = no_loops-right (instant_loops p) (instant_loops q) nl in
      cond_both (holds S p (n + 1)) (Seq (residual S p (n + 1)) q) (residual S q (n + 1 + statement_count p))
      (λ t. started_codes t k ≡ true → resumed_codes (Seq p q) k ≡ true)
      (λ c. turn_codes p q (residual S p (n + 1)) (Seq p q) k (λ i. residual_codes p (n + 1) np b.0 c (s.1 c) i)
      (seq_first p q k) (λ z. seq_restart p q k z))
      (λ c e.
      let d = or-other _ _ c h in
      let f = s.2 d in
      seq_second p q k f.0 (residual_codes q (n + 1 + statement_count p) nq b.1 d f.1 k e))
  residual_codes (Loop at p) n nl b h s k =
      let parts = loop_body at p nl in
      turn_codes p (Loop at p) (residual S p (n + 1)) (Loop at p) k (λ i. residual_codes p (n + 1) parts.1 b h s i)
      (λ e z. or_left _ _ (except-in (resumed_codes p) 0 k e z)) (λ z e. or_right _ _ (and_from _ _ z e))
  residual_codes (Par p q) n nl b h s k = λ e.
      let np = no_loops-left (instant_loops p) (instant_loops q) nl in
      let nq = no_loops-right (instant_loops p) (instant_loops q) nl in
      let live : (has_code (resumed_codes p) || has_code (resumed_codes q)) ≡ true =
      ⊎_elim (λ c. or_left _ _ (resumed_live p (n + 1) np b.0 c (s.2 c)))
      (λ c. or_right _ _ (resumed_live q (n + 1 + statement_count p) nq b.1 c (s.3 c)))
      (or_cases (holds S p (n + 1)) (holds S q (n + 1 + statement_count p)) h) in
      and_from _ _ live
      (maxima-subset _ _ _ _
      (left_codes (holds S p (n + 1)) (residual S p (n + 1)) p s.0 (λ c. residual_codes p (n + 1) np b.0 c (s.2 c)))
      (left_codes (holds S q (n + 1 + statement_count p)) (residual S q (n + 1 + statement_count p)) q s.1
      (λ c. residual_codes q (n + 1 + statement_count p) nq b.1 c (s.3 c))) k e)
  residual_codes (Trap p) n nl b h s k = λ e.
      lowered-subset _ _ (residual_codes p (n + 1) nl b h s) k e
  residual_codes (Local x p) n nl b h s k = λ e. residual_codes p (n + 1) nl b h s k e
  residual_codes (Awake x p) n nl b h s k = λ e. absurd b
  residual_codes _ n nl b h s k = λ e. absurd (false≢true h)
