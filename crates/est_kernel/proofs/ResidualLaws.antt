-- What is left of a kernel statement that has paused, by its form; what it completes with are resumed codes
-- of the statement.
use Rattle.std.proofs.Common.{◌≡◌, ℕ, zero, suc, ◌+◌, ◌<◌, ◌≤◌, Bool, true, false, ◌==◌, ◌||◌, cond, max, List, [], ◌∷◌, ◌++◌, Option, Some, None, ◌⊎◌, inl}
use Rattle.std.proofs.Common.{inr, refl, sym, ◌∙◌, subst, ⊎_elim, arith}
use Rattle.std.specs.Prelude.{option_and_then}
use Rattle.std.proofs.lemmas.Bool.{or_cases, or_left, or_right, and_from, eqb-true, eqb-false, eq-eqb, ne_eqb, cond_both, cond-true, cond-false, both_ways}
use Rattle.base_types.specs.declared.place.Span.{Span}
use Rattle.base_types.specs.Codes.{only, either, except, maxima, lowered}
use Rattle.est_kernel.specs.Terms.{Term, Nothing, Pause, Emit, Exit, Present, Suspend, Seq, Loop, Par, Trap, Local, Awake}
use Rattle.est_kernel.specs.Statuses.{Status, Plus, Minus, Unknown, Environment, with_status, value}
use Rattle.est_kernel.specs.Potentials.{decided}
use Rattle.est_kernel.specs.Steps.{Step, step, left_by, leaving, leaves, chosen_step, then_step, sequence_step, loop_step, parallel_step, trap_code, trap_step}
use Rattle.est_kernel.specs.Steps.{local_step, where_known}
use Rattle.est_kernel.specs.StaticCodes.{codes_if, has_code, started_codes, branch_codes, resumed_codes, instant_loops, NoInstantLoop}
use Rattle.est_kernel.specs.Sizes.{trap_depth}
use Rattle.est_kernel.specs.WellFormed.{IsKernel, ExitsStandInTraps}
use Rattle.est_kernel.specs.Laws.{IsSubset, left_by_step, left_after, LeftCompletesAsResumed, TreesAreKernels}
use Rattle.est_kernel.specs.declared.statements.Kernel.TheVariants as kernels
use Rattle.est_kernel.proofs.Sets.{except-in, except-parts, upto-in, maxima-in, lowered-in, maxima-subset, lowered-subset}
use Rattle.est_kernel.proofs.CodeLaws.{append-nil, not_instant, static_sequence, step_keeps_static_codes_lem}

-- ---- sets that have a code

-- a code of a set, below 64
pub record Inhabited (A : ℕ → Bool) : Type 0 where
  pub code : ℕ
  pub below : code < 64
  pub member : A code ≡ true

pub inhabited-has_code : (A : ℕ → Bool) → Inhabited A → has_code A ≡ true
inhabited-has_code A s = upto-in A s.code 63 s.member (omega (arith, s.below))

inhabited_more : {A B : ℕ → Bool} → IsSubset A B → Inhabited A → Inhabited B
inhabited_more f s = record { code = s.code; below = s.below; member = f s.code s.member }

-- exits in traps that are few enough, and no instantaneous loop
pub record Bounded (n : ℕ) (p : Term) : Type 0 where
  pub exits : ExitsStandInTraps n p
  pub depth : n + trap_depth p ≤ 60
  pub loops : NoInstantLoop p

-- two parts of a statement
bounded_parts : (n : ℕ) (p q : Term) → ExitsStandInTraps n p × ExitsStandInTraps n q → n + max (trap_depth p) (trap_depth q) ≤ 60 →
    instant_loops p ++ instant_loops q ≡ [] → Bounded n p × Bounded n q
bounded_parts n p q exits depth loops =
    let l = append-nil (instant_loops p) (instant_loops q) loops in
    (record { exits = exits.0; depth = omega arith; loops = l.0 }, record { exits = exits.1; depth = omega arith; loops = l.1 })

-- the body of a loop
bounded_body : (n : ℕ) (at : Span) (p : Term) → Bounded n (Loop at p) → Bounded n p × (started_codes p 0 ≡ false)
bounded_body n at p b =
    let l = append-nil (cond (started_codes p 0) (at ∷ []) []) (instant_loops p) b.loops in
    (record { exits = b.exits; depth = b.depth; loops = l.1 }, not_instant (started_codes p 0) at l.0)

bounded_trap : (n : ℕ) (p : Term) → Bounded n (Trap p) → Bounded (n + 1) p
bounded_trap n p b = record { exits = b.exits; depth = omega (arith, b.depth); loops = b.loops }

pub trap_code-most : (k : ℕ) → trap_code k ≤ k
trap_code-most zero = omega arith
trap_code-most (suc zero) = omega arith
trap_code-most (suc (suc zero)) = omega arith
trap_code-most (suc (suc (suc k))) = omega arith

lowered_inhabited : (A : ℕ → Bool) → Inhabited A → Inhabited (lowered A)
lowered_inhabited A s = record { code = trap_code s.code; below = omega (arith, s.below, trap_code-most s.code); member = lowered-in A s.code s.member }

maxima_inhabited : (A B : ℕ → Bool) → Inhabited A → Inhabited B → Inhabited (maxima A B)
maxima_inhabited A B s t = record { code = max s.code t.code; below = omega (arith, s.below, t.below); member = maxima-in A B s.code t.code s.member t.member }

-- a set with a code other than 0, or a code that stands in for 0
instead_of_zero : (A B : ℕ → Bool) → Inhabited A → (A 0 ≡ true → Inhabited B) → Inhabited (either (except 0 A) B)
instead_of_zero A B s zero_in =
    go (s.code == 0) refl
  where
    go : (b : Bool) → (s.code == 0) ≡ b → Inhabited (either (except 0 A) B)
    go true e = inhabited_more (λ k h. or_right (except 0 A k) (B k) h) (zero_in (subst (λ k. A k ≡ true) (eqb-true s.code 0 e) s.member))
    go false e = record {
      code = s.code;
      below = s.below;
      member = or_left (except 0 A s.code) (B s.code)
          (except-in A 0 s.code s.member (eqb-false s.code 0 e));
    }

pub started_inhabited : (n : ℕ) (p : Term) → Bounded n p → Inhabited (started_codes p)
started_inhabited n Nothing b = record { code = 0; below = omega arith; member = refl }
started_inhabited n Pause b = record { code = 1; below = omega arith; member = refl }
started_inhabited n (Emit s) b = record { code = 0; below = omega arith; member = refl }
started_inhabited n (Exit k) b = record { code = k; below = omega (arith, b.depth, b.exits.1); member = eq-eqb k k refl }
started_inhabited n (Present e p q) b =
    let parts = bounded_parts n p q b.exits b.depth b.loops in
    inhabited_more (λ k h. or_left (started_codes p k) (started_codes q k) h) (started_inhabited n p parts.0)
started_inhabited n (Suspend e p) b = started_inhabited n p (record { exits = b.exits; depth = b.depth; loops = b.loops })
started_inhabited n (Seq p q) b =
    let parts = bounded_parts n p q b.exits b.depth b.loops in
    let s = started_inhabited n p parts.0 in
    let t = started_inhabited n q parts.1 in
    cond_both (started_codes p 0) (either (except 0 (started_codes p)) (started_codes q)) (started_codes p) (λ A. Inhabited A)
    (λ e. instead_of_zero (started_codes p) (started_codes q) s (λ z. t))
    (λ e. s)
started_inhabited n (Loop at p) b =
    let body = bounded_body n at p b in
    let s = started_inhabited n p body.0 in
    record {
      code = s.code;
      below = s.below;
      member = except-in (started_codes p) 0 s.code s.member
          (λ e. both_ways (started_codes p 0) body.1 (subst (λ k. started_codes p k ≡ true) e s.member));
    }
started_inhabited n (Par p q) b =
    let parts = bounded_parts n p q b.exits b.depth b.loops in
    maxima_inhabited _ _ (started_inhabited n p parts.0) (started_inhabited n q parts.1)
started_inhabited n (Trap p) b = lowered_inhabited _ (started_inhabited (n + 1) p (bounded_trap n p b))
started_inhabited n (Local s p) b = started_inhabited n p (record { exits = b.exits; depth = b.depth; loops = b.loops })
started_inhabited n (Awake e p) b = record { code = 1; below = omega arith; member = refl }

-- ---- what is left, by the form of the statement

-- a statement can have ended in an instant before the last
abbrev Marked : Term → Type 0
Marked p = (started_codes p 0 || resumed_codes p 0) ≡ true

-- a branch of a parallel goes on, or has ended
abbrev Branches : Type 0 → Type 0 → Type 0 → Type 0 → Type 0
Branches A ended_a B ended_b = (A × B) ⊎ ((A × ended_b) ⊎ (ended_a × B))

-- What is left of a kernel statement after instants in which it paused. A branch of a parallel may have
-- ended, but not both.
abbrev LeftOf : Term → Term → Type 0
LeftOf Nothing r = ⊥
LeftOf Pause r = r ≡ Nothing
LeftOf (Emit s) r = ⊥
LeftOf (Exit k) r = ⊥
LeftOf (Present e p q) r = LeftOf p r ⊎ LeftOf q r
LeftOf (Suspend e p) r = (a : Term) × (r ≡ Awake e a) × LeftOf p a
LeftOf (Seq p q) r = ((a : Term) × (r ≡ Seq a q) × LeftOf p a) ⊎ (Marked p × LeftOf q r)
LeftOf (Loop at p) r = (a : Term) × (r ≡ Seq a (Loop at p)) × LeftOf p a
LeftOf (Par p q) r = (a : Term) × (b : Term) × (r ≡ Par a b) × Branches (LeftOf p a) ((a ≡ Nothing) × Marked p) (LeftOf q b) ((b ≡ Nothing) × Marked q)
LeftOf (Trap p) r = (a : Term) × (r ≡ Trap a) × LeftOf p a
LeftOf (Local s p) r = (a : Term) × (r ≡ Local s a) × LeftOf p a
LeftOf (Awake e p) r = ⊥

goes_on_branch : (t : Term) → Inhabited (resumed_codes t) → Inhabited (branch_codes (started_codes t) (resumed_codes t))
goes_on_branch t s = inhabited_more (λ k m. or_left (resumed_codes t k) _ m) s

ended_branch : (t : Term) → Marked t → Inhabited (branch_codes (started_codes t) (resumed_codes t))
ended_branch t m = record {
  code = 0;
  below = omega arith;
  member =
      or_right (resumed_codes t 0) _ (and_from (started_codes t 0 || resumed_codes t 0) _ m refl);
}

either_branch : (p q : Term) → (has_code (resumed_codes p) || has_code (resumed_codes q)) ≡ true →
    Inhabited (branch_codes (started_codes p) (resumed_codes p)) → Inhabited (branch_codes (started_codes q) (resumed_codes q)) →
    Inhabited (resumed_codes (Par p q))
either_branch p q some s t = inhabited_more (λ k m. and_from (has_code (resumed_codes p) || has_code (resumed_codes q)) _ some m) (maxima_inhabited _ _ s t)

branches_inhabited : (p q a b : Term) → (LeftOf p a → Inhabited (resumed_codes p)) → (LeftOf q b → Inhabited (resumed_codes q)) →
    Branches (LeftOf p a) ((a ≡ Nothing) × Marked p) (LeftOf q b) ((b ≡ Nothing) × Marked q) → Inhabited (resumed_codes (Par p q))
branches_inhabited p q a b f g (inl x) =
    either_branch p q (or_left (has_code (resumed_codes p)) _ (inhabited-has_code _ (f x.0))) (goes_on_branch p (f x.0)) (goes_on_branch q (g x.1))
branches_inhabited p q a b f g (inr (inl x)) =
    either_branch p q (or_left (has_code (resumed_codes p)) _ (inhabited-has_code _ (f x.0))) (goes_on_branch p (f x.0)) (ended_branch q x.1.1)
branches_inhabited p q a b f g (inr (inr x)) =
    either_branch p q (or_right (has_code (resumed_codes p)) _ (inhabited-has_code _ (g x.1))) (ended_branch p x.0.1) (goes_on_branch q (g x.1))

-- a statement of which something can be left has a resumed code
left_inhabited : (n : ℕ) (p r : Term) → Bounded n p → LeftOf p r → Inhabited (resumed_codes p)
left_inhabited n Nothing r b h = absurd h
left_inhabited n Pause r b h = record { code = 0; below = omega arith; member = refl }
left_inhabited n (Emit s) r b h = absurd h
left_inhabited n (Exit k) r b h = absurd h
left_inhabited n (Present e p q) r b h =
    let parts = bounded_parts n p q b.exits b.depth b.loops in
    ⊎_elim
    (λ x. inhabited_more (λ k m. or_left (resumed_codes p k) (resumed_codes q k) m) (left_inhabited n p r parts.0 x))
    (λ y. inhabited_more (λ k m. or_right (resumed_codes p k) (resumed_codes q k) m) (left_inhabited n q r parts.1 y))
    h
left_inhabited n (Suspend e p) r b h =
    inhabited_more (λ k m. or_left (resumed_codes p k) _ m) (left_inhabited n p h.0 (record { exits = b.exits; depth = b.depth; loops = b.loops }) h.2)
left_inhabited n (Seq p q) r b h =
    let parts = bounded_parts n p q b.exits b.depth b.loops in
    let second = either (codes_if (resumed_codes p 0) (started_codes q)) (codes_if (started_codes p 0 || resumed_codes p 0) (resumed_codes q)) in
    ⊎_elim
    (λ x. instead_of_zero (resumed_codes p) second (left_inhabited n p x.0 parts.0 x.2)
    (λ z. inhabited_more (λ k m. or_left (codes_if (resumed_codes p 0) (started_codes q) k) _ (and_from (resumed_codes p 0) _ z m))
    (started_inhabited n q parts.1)))
    (λ y. inhabited_more (λ k m. or_right (except 0 (resumed_codes p) k) (second k)
    (or_right (codes_if (resumed_codes p 0) (started_codes q) k) _ (and_from (started_codes p 0 || resumed_codes p 0) _ y.0 m)))
    (left_inhabited n q r parts.1 y.1))
    h
left_inhabited n (Loop at p) r b h =
    let body = bounded_body n at p b in
    instead_of_zero (resumed_codes p) (codes_if (resumed_codes p 0) (except 0 (started_codes p))) (left_inhabited n p h.0 body.0 h.2)
    (λ z. inhabited_more (λ k m. and_from (resumed_codes p 0) _ z m) (started_inhabited n (Loop at p) b))
left_inhabited n (Par p q) r b h =
    let parts = bounded_parts n p q b.exits b.depth b.loops in
    branches_inhabited p q h.0 h.1 (λ l. left_inhabited n p h.0 parts.0 l) (λ l. left_inhabited n q h.1 parts.1 l) h.3
left_inhabited n (Trap p) r b h = lowered_inhabited _ (left_inhabited (n + 1) p h.0 (bounded_trap n p b) h.2)
left_inhabited n (Local s p) r b h = left_inhabited n p h.0 (record { exits = b.exits; depth = b.depth; loops = b.loops }) h.2
left_inhabited n (Awake e p) r b h = absurd h

-- ---- what is left completes with resumed codes

-- the codes of a sequence are those of its first part other than 0, and with 0 those of the second
sequence_subset : (A B C : ℕ → Bool) → IsSubset (except 0 A) C → (A 0 ≡ true → IsSubset B C) → IsSubset (static_sequence A B) C
sequence_subset A B C f g k h =
    cases (A 0) refl
  where
    cases : (z : Bool) → A 0 ≡ z → C k ≡ true
    cases true e = ⊎_elim (λ x. f k x) (λ y. g e k y) (or_cases (except 0 A k) (B k) (subst (λ S. S k ≡ true) (cond-true (A 0) (either (except 0 A) B) A e) h))
    cases false e =
        let m : A k ≡ true = subst (λ S. S k ≡ true) (cond-false (A 0) (either (except 0 A) B) A e) h in
        f k (except-in A 0 k m (λ z. both_ways (A 0) e (subst (λ j. A j ≡ true) z m)))

branch_subset : (p a : Term) → IsSubset (started_codes a) (resumed_codes p) → IsSubset (started_codes a) (branch_codes (started_codes p) (resumed_codes p))
branch_subset p a f k h = or_left (resumed_codes p k) _ (f k h)

ended_subset : (p a : Term) → (a ≡ Nothing) → Marked p → IsSubset (started_codes a) (branch_codes (started_codes p) (resumed_codes p))
ended_subset p a is m k h =
    let z : only 0 k ≡ true = subst (λ t. started_codes t k ≡ true) is h in
    or_right (resumed_codes p k) _ (and_from (started_codes p 0 || resumed_codes p 0) _ m z)

branches_subset : (p q a b : Term) → (LeftOf p a → IsSubset (started_codes a) (resumed_codes p)) → (LeftOf q b → IsSubset (started_codes b) (resumed_codes q)) →
    Branches (LeftOf p a) ((a ≡ Nothing) × Marked p) (LeftOf q b) ((b ≡ Nothing) × Marked q) →
    IsSubset (started_codes (Par a b)) (maxima (branch_codes (started_codes p) (resumed_codes p)) (branch_codes (started_codes q) (resumed_codes q)))
branches_subset p q a b f g (inl x) = maxima-subset _ _ _ _ (branch_subset p a (f x.0)) (branch_subset q b (g x.1))
branches_subset p q a b f g (inr (inl x)) = maxima-subset _ _ _ _ (branch_subset p a (f x.0)) (ended_subset q b x.1.0 x.1.1)
branches_subset p q a b f g (inr (inr x)) = maxima-subset _ _ _ _ (ended_subset p a x.0.0 x.0.1) (branch_subset q b (g x.1))

branches_some : (p q a b : Term) → (LeftOf p a → Inhabited (resumed_codes p)) → (LeftOf q b → Inhabited (resumed_codes q)) →
    Branches (LeftOf p a) ((a ≡ Nothing) × Marked p) (LeftOf q b) ((b ≡ Nothing) × Marked q) → (has_code (resumed_codes p) || has_code (resumed_codes q)) ≡ true
branches_some p q a b f g (inl x) = or_left (has_code (resumed_codes p)) _ (inhabited-has_code _ (f x.0))
branches_some p q a b f g (inr (inl x)) = or_left (has_code (resumed_codes p)) _ (inhabited-has_code _ (f x.0))
branches_some p q a b f g (inr (inr x)) = or_right (has_code (resumed_codes p)) _ (inhabited-has_code _ (g x.1))

subset_of : {r t : Term} (C : ℕ → Bool) → r ≡ t → IsSubset (started_codes t) C → IsSubset (started_codes r) C
subset_of C e f = subst (λ x. IsSubset (started_codes x) C) (sym e) f

pub left_codes : (n : ℕ) (p r : Term) → Bounded n p → LeftOf p r → IsSubset (started_codes r) (resumed_codes p)
left_codes n Nothing r b h = absurd h
left_codes n Pause r b h = subset_of _ h (λ k m. m)
left_codes n (Emit s) r b h = absurd h
left_codes n (Exit k) r b h = absurd h
left_codes n (Present e p q) r b h =
    let parts = bounded_parts n p q b.exits b.depth b.loops in
    λ k m. ⊎_elim
    (λ x. or_left (resumed_codes p k) (resumed_codes q k) (left_codes n p r parts.0 x k m))
    (λ y. or_right (resumed_codes p k) (resumed_codes q k) (left_codes n q r parts.1 y k m))
    h
left_codes n (Suspend e p) r b h =
    let body : Bounded n p = record { exits = b.exits; depth = b.depth; loops = b.loops } in
    let some = inhabited-has_code _ (left_inhabited n p h.0 body h.2) in
    subset_of _ h.1 (λ k m. ⊎_elim
    (λ x. or_right (resumed_codes p k) _ (and_from (has_code (resumed_codes p)) _ some x))
    (λ y. or_left (resumed_codes p k) _ (left_codes n p h.0 body h.2 k y))
    (or_cases (only 1 k) (started_codes h.0 k) m))
left_codes n (Seq p q) r b h =
    let parts = bounded_parts n p q b.exits b.depth b.loops in
    let second = either (codes_if (resumed_codes p 0) (started_codes q)) (codes_if (started_codes p 0 || resumed_codes p 0) (resumed_codes q)) in
    ⊎_elim
    (λ x.
    let f = left_codes n p x.0 parts.0 x.2 in
    subset_of _ x.1 (sequence_subset (started_codes x.0) (started_codes q) _
    (λ k m. let e = except-parts (started_codes x.0) 0 k m in or_left (except 0 (resumed_codes p) k) (second k) (except-in (resumed_codes p) 0 k (f k e.0) e.1))
    (λ z k m. or_right (except 0 (resumed_codes p) k) (second k) (or_left (codes_if (resumed_codes p 0) (started_codes q) k) _
    (and_from (resumed_codes p 0) _ (f 0 z) m)))))
    (λ y k m. or_right (except 0 (resumed_codes p) k) (second k) (or_right (codes_if (resumed_codes p 0) (started_codes q) k) _
    (and_from (started_codes p 0 || resumed_codes p 0) _ y.0 (left_codes n q r parts.1 y.1 k m))))
    h
left_codes n (Loop at p) r b h =
    let body = bounded_body n at p b in
    let f = left_codes n p h.0 body.0 h.2 in
    subset_of _ h.1 (sequence_subset (started_codes h.0) (started_codes (Loop at p)) _
    (λ k m. let e = except-parts (started_codes h.0) 0 k m in or_left (except 0 (resumed_codes p) k) _ (except-in (resumed_codes p) 0 k (f k e.0) e.1))
    (λ z k m. or_right (except 0 (resumed_codes p) k) _ (and_from (resumed_codes p 0) _ (f 0 z) m)))
left_codes n (Par p q) r b h =
    let parts = bounded_parts n p q b.exits b.depth b.loops in
    let some : (has_code (resumed_codes p) || has_code (resumed_codes q)) ≡ true =
    branches_some p q h.0 h.1 (λ l. left_inhabited n p h.0 parts.0 l) (λ l. left_inhabited n q h.1 parts.1 l) h.3 in
    subset_of _ h.2 (λ k m. and_from (has_code (resumed_codes p) || has_code (resumed_codes q)) _ some
    (branches_subset p q h.0 h.1 (λ l. left_codes n p h.0 parts.0 l) (λ l. left_codes n q h.1 parts.1 l) h.3 k m))
left_codes n (Trap p) r b h = subset_of _ h.1 (lowered-subset _ _ (left_codes (n + 1) p h.0 (bounded_trap n p b) h.2))
left_codes n (Local s p) r b h = subset_of _ h.1 (left_codes n p h.0 (record { exits = b.exits; depth = b.depth; loops = b.loops }) h.2)
left_codes n (Awake e p) r b h = absurd h

-- ---- what steps that pause leave

-- a step that does not pause leaves nothing
abbrev LeavesNothing : Option Step → Type 0
LeavesNothing None = Unit {0}
LeavesNothing (Some x) = (x.code ≡ 1 → ⊥) → x.residual ≡ Nothing

left_nothing : (c : ℕ) (r : Term) → (c ≡ 1 → ⊥) → left_by c r ≡ Nothing
left_nothing c r n = cond-false (c == 1) r Nothing (ne_eqb c 1 n)

pub left_whole : (c : ℕ) (r : Term) → c ≡ 1 → left_by c r ≡ r
left_whole c r e = cond-true (c == 1) r Nothing (eq-eqb c 1 e)

leaves_nothing : (f : Term → Term) (o : Option Step) → LeavesNothing (leaves f o)
leaves_nothing f None = tt
leaves_nothing f (Some x) = λ n. left_nothing x.code (f x.residual) n

chosen_nothing : (v : Status) (a b : Option Step) → LeavesNothing a → LeavesNothing b → LeavesNothing (chosen_step v a b)
chosen_nothing Plus a b f g = f
chosen_nothing Minus a b f g = g
chosen_nothing Unknown a b f g = tt

then_nothing : (x : Step) (b : Option Step) → LeavesNothing b → LeavesNothing (then_step x b)
then_nothing x None g = tt
then_nothing x (Some y) g = g

sequence_nothing : (q : Term) (a b : Option Step) → LeavesNothing b → LeavesNothing (sequence_step q a b)
sequence_nothing q None b g = tt
sequence_nothing q (Some x) b g =
    cond_both (x.code == 0) (then_step x b) (Some (leaving (λ r. Seq r q) x)) (λ s. LeavesNothing s)
    (λ e. then_nothing x b g)
    (λ e n. left_nothing x.code (Seq x.residual q) n)

loop_nothing : (whole : Term) (a : Option Step) → LeavesNothing (loop_step whole a)
loop_nothing whole None = tt
loop_nothing whole (Some x) =
    cond_both (x.code == 0) None (Some (leaving (λ r. Seq r whole) x)) (λ s. LeavesNothing s)
    (λ e. tt)
    (λ e n. left_nothing x.code (Seq x.residual whole) n)

parallel_nothing : (a b : Option Step) → LeavesNothing (parallel_step a b)
parallel_nothing None b = tt
parallel_nothing (Some x) None = tt
parallel_nothing (Some x) (Some y) = λ n. left_nothing (max x.code y.code) (Par x.residual y.residual) n

trap_nothing : (a : Option Step) → LeavesNothing (trap_step a)
trap_nothing None = tt
trap_nothing (Some x) = λ n. left_nothing (trap_code x.code) (Trap x.residual) n

local_nothing : (v : Status) (s : ℕ) (a : Option Step) → LeavesNothing (where_known v (local_step s a))
local_nothing Plus s None = tt
local_nothing Plus s (Some x) = λ n. left_nothing x.code (Local s x.residual) n
local_nothing Minus s None = tt
local_nothing Minus s (Some x) = λ n. left_nothing x.code (Local s x.residual) n
local_nothing Unknown s a = tt

nothing_left : (p : Term) (E : Environment) → LeavesNothing (step p E)
nothing_left Nothing E = λ n. refl
nothing_left Pause E = λ n. refl
nothing_left (Emit s) E = λ n. refl
nothing_left (Exit k) E = λ n. refl
nothing_left (Present e p q) E = chosen_nothing (value e E) (step p E) (step q E) (nothing_left p E) (nothing_left q E)
nothing_left (Suspend e p) E = leaves_nothing (λ r. Awake e r) (step p E)
nothing_left (Seq p q) E = sequence_nothing q (step p E) (step q E) (nothing_left q E)
nothing_left (Loop at p) E = loop_nothing (Loop at p) (step p E)
nothing_left (Par p q) E = parallel_nothing (step p E) (step q E)
nothing_left (Trap p) E = trap_nothing (step p E)
nothing_left (Local s p) E = local_nothing (decided p E s) s (step p (with_status E s (decided p E s)))
nothing_left (Awake e p) E =
    chosen_nothing (value e E) _ (leaves (λ r. Awake e r) (step p E)) (λ n. absurd (n refl)) (leaves_nothing (λ r. Awake e r) (step p E))

-- what a step that pauses leaves is left of p
abbrev LeavesOf : Term → Option Step → Type 0
LeavesOf p None = Unit {0}
LeavesOf p (Some x) = x.code ≡ 1 → LeftOf p x.residual

-- one part below: the whole leaves what f makes of what the part leaves
leaving_of : (p t : Term) (f : Term → Term) (o : Option Step) → ((a : Term) → LeftOf p a → LeftOf t (f a)) → LeavesOf p o → LeavesOf t (leaves f o)
leaving_of p t f None g h = tt
leaving_of p t f (Some x) g h = λ e. subst (λ r. LeftOf t r) (sym (left_whole x.code (f x.residual) e)) (g x.residual (h e))

chosen_of : (t : Term) (v : Status) (a b : Option Step) → LeavesOf t a → LeavesOf t b → LeavesOf t (chosen_step v a b)
chosen_of t Plus a b f g = f
chosen_of t Minus a b f g = g
chosen_of t Unknown a b f g = tt

more_of : (p t : Term) (o : Option Step) → ((a : Term) → LeftOf p a → LeftOf t a) → LeavesOf p o → LeavesOf t o
more_of p t None g h = tt
more_of p t (Some x) g h = λ e. g x.residual (h e)

then_of : (t : Term) (x : Step) (b : Option Step) → LeavesOf t b → LeavesOf t (then_step x b)
then_of t x None g = tt
then_of t x (Some y) g = g

-- a sequence: what the first part leaves before q, or what the second part leaves
sequence_of : (p q t : Term) (a b : Option Step) → ((r : Term) → LeftOf p r → LeftOf t (Seq r q)) → LeavesOf p a →
    ((x : Step) → a ≡ Some x → x.code ≡ 0 → LeavesOf t b) → LeavesOf t (sequence_step q a b)
sequence_of p q t None b f h g = tt
sequence_of p q t (Some x) b f h g =
    cond_both (x.code == 0) (then_step x b) (Some (leaving (λ r. Seq r q) x)) (λ s. LeavesOf t s)
    (λ e. then_of t x b (g x refl (eqb-true x.code 0 e)))
    (λ e c. subst (λ r. LeftOf t r) (sym (left_whole x.code (Seq x.residual q) c)) (f x.residual (h c)))

loop_of : (p t whole : Term) (a : Option Step) → ((r : Term) → LeftOf p r → LeftOf t (Seq r whole)) → LeavesOf p a → LeavesOf t (loop_step whole a)
loop_of p t whole None f h = tt
loop_of p t whole (Some x) f h =
    cond_both (x.code == 0) None (Some (leaving (λ r. Seq r whole) x)) (λ s. LeavesOf t s)
    (λ e. tt)
    (λ e c. subst (λ r. LeftOf t r) (sym (left_whole x.code (Seq x.residual whole) c)) (f x.residual (h c)))

-- one branch of a parallel in a step: it goes on, or ends
abbrev Branch : Term → Option Step → Type 0
Branch p None = Unit {0}
Branch p (Some x) = (x.code ≡ 1 → LeftOf p x.residual) × (x.code ≡ 0 → (x.residual ≡ Nothing) × Marked p)

parallel_of : (p q : Term) (a b : Option Step) → Branch p a → Branch q b → LeavesOf (Par p q) (parallel_step a b)
parallel_of p q None b f g = tt
parallel_of p q (Some x) None f g = tt
parallel_of p q (Some x) (Some y) f g = λ e.
    subst (λ r. LeftOf (Par p q) r) (sym (left_whole (max x.code y.code) (Par x.residual y.residual) e))
    (x.residual, y.residual, refl, branches (x.code == 0) refl (y.code == 0) refl e)
  where
    branches : (c : Bool) → (x.code == 0) ≡ c → (d : Bool) → (y.code == 0) ≡ d → max x.code y.code ≡ 1 →
        Branches (LeftOf p x.residual) ((x.residual ≡ Nothing) × Marked p) (LeftOf q y.residual) ((y.residual ≡ Nothing) × Marked q)
    branches true i true j e = let z = eqb-true x.code 0 i in let w = eqb-true y.code 0 j in absurd (omega arith)
    branches true i false j e = let z = eqb-true x.code 0 i in inr (inr (f.1 z, g.0 (omega (arith, z))))
    branches false i true j e = let w = eqb-true y.code 0 j in inr (inl (f.0 (omega (arith, w)), g.1 w))
    branches false i false j e = let z = eqb-false x.code 0 i in let w = eqb-false y.code 0 j in inl (f.0 (omega (arith, z, w)), g.0 (omega (arith, z, w)))

trap_of : (p : Term) (a : Option Step) → LeavesOf p a → LeavesOf (Trap p) (trap_step a)
trap_of p None h = tt
trap_of p (Some x) h = λ e.
    subst (λ r. LeftOf (Trap p) r) (sym (left_whole (trap_code x.code) (Trap x.residual) e)) (x.residual, refl, h (trap_one x.code e))
  where
    trap_one : (c : ℕ) → trap_code c ≡ 1 → c ≡ 1
    trap_one zero e = absurd (omega (arith, e))
    trap_one (suc zero) e = refl
    trap_one (suc (suc zero)) e = absurd (omega (arith, e))
    trap_one (suc (suc (suc k))) e = absurd (omega (arith, e))

local_of : (v : Status) (s : ℕ) (p : Term) (a : Option Step) → LeavesOf p a → LeavesOf (Local s p) (where_known v (local_step s a))
local_of Plus s p None h = tt
local_of Plus s p (Some x) h = λ e. subst (λ r. LeftOf (Local s p) r) (sym (left_whole x.code (Local s x.residual) e)) (x.residual, refl, h e)
local_of Minus s p None h = tt
local_of Minus s p (Some x) h = λ e. subst (λ r. LeftOf (Local s p) r) (sym (left_whole x.code (Local s x.residual) e)) (x.residual, refl, h e)
local_of Unknown s p a h = tt

-- a branch that has ended
ended_of : (p a : Term) (E : Environment) → a ≡ Nothing → Marked p → Branch p (step a E)
ended_of p a E is m = subst (λ t. Branch p (step t E)) (sym is) ((λ e. absurd (omega (arith, e))), (λ z. (refl, m)))

-- both branches of a parallel
both_of : (p q a b : Term) (E : Environment) → (LeftOf p a → Branch p (step a E)) → (LeftOf q b → Branch q (step b E)) →
    Branches (LeftOf p a) ((a ≡ Nothing) × Marked p) (LeftOf q b) ((b ≡ Nothing) × Marked q) → LeavesOf (Par p q) (parallel_step (step a E) (step b E))
both_of p q a b E f g (inl x) = parallel_of p q (step a E) (step b E) (f x.0) (g x.1)
both_of p q a b E f g (inr (inl x)) = parallel_of p q (step a E) (step b E) (f x.0) (ended_of q b E x.1.0 x.1.1)
both_of p q a b E f g (inr (inr x)) = parallel_of p q (step a E) (step b E) (ended_of p a E x.0.0 x.0.1) (g x.1)

-- the same of a branch, which is marked where it can end
branch_of : (p t : Term) (E : Environment) → (started_codes t 0 ≡ true → Marked p) → LeavesOf p (step t E) → Branch p (step t E)
branch_of p t E m h = cases (step t E) refl h
  where
    cases : (o : Option Step) → step t E ≡ o → LeavesOf p o → Branch p o
    cases None is h = tt
    cases (Some x) is h = (
      h,
      λ z. (
        subst (λ o. LeavesNothing o) is (nothing_left t E) (λ e. let c : 0 ≡ 1 = sym z ∙ e in absurd (omega (arith, c))),
        m (subst (λ k. started_codes t k ≡ true) z (step_keeps_static_codes_lem t E x is)),
      ),
    )

first_left : (n : ℕ) (p : Term) (E : Environment) → ExitsStandInTraps n p → IsKernel p → LeavesOf p (step p E)
first_left n Nothing E h k = λ e. absurd (omega (arith, e))
first_left n Pause E h k = λ e. refl
first_left n (Emit s) E h k = λ e. absurd (omega (arith, e))
first_left n (Exit c) E h k = λ e. absurd (omega (arith, e, h.0))
first_left n (Present e p q) E h k =
    chosen_of (Present e p q) (value e E) (step p E) (step q E)
    (more_of p (Present e p q) (step p E) (λ a l. inl l) (first_left n p E h.0 k.0))
    (more_of q (Present e p q) (step q E) (λ a l. inr l) (first_left n q E h.1 k.1))
first_left n (Suspend e p) E h k = leaving_of p (Suspend e p) (λ r. Awake e r) (step p E) (λ a l. (a, refl, l)) (first_left n p E h k)
first_left n (Seq p q) E h k =
    sequence_of p q (Seq p q) (step p E) (step q E) (λ r l. inl (r, refl, l)) (first_left n p E h.0 k.0)
    (λ x is z. more_of q (Seq p q) (step q E) (λ a l. inr (
      or_left (started_codes p 0) (resumed_codes p 0)
          (subst (λ c. started_codes p c ≡ true) z (step_keeps_static_codes_lem p E x is)),
      l,
    )) (first_left n q E h.1 k.1))
first_left n (Loop at p) E h k = loop_of p (Loop at p) (Loop at p) (step p E) (λ r l. (r, refl, l)) (first_left n p E h k)
first_left n (Par p q) E h k =
    parallel_of p q (step p E) (step q E)
    (branch_of p p E (λ z. or_left (started_codes p 0) (resumed_codes p 0) z) (first_left n p E h.0 k.0))
    (branch_of q q E (λ z. or_left (started_codes q 0) (resumed_codes q 0) z) (first_left n q E h.1 k.1))
first_left n (Trap p) E h k = trap_of p (step p E) (first_left (n + 1) p E h k)
first_left n (Local s p) E h k = let v = decided p E s in local_of v s p (step p (with_status E s v)) (first_left n p (with_status E s v) h k)
first_left n (Awake e p) E h k = absurd k

next_left : (n : ℕ) (p r : Term) (E : Environment) → Bounded n p → IsKernel p → LeftOf p r → LeavesOf p (step r E)
next_left n Nothing r E b k h = absurd h
next_left n Pause r E b k h = subst (λ t. LeavesOf Pause (step t E)) (sym h) (λ e. absurd (omega (arith, e)))
next_left n (Emit s) r E b k h = absurd h
next_left n (Exit c) r E b k h = absurd h
next_left n (Present e p q) r E b k h =
    let parts = bounded_parts n p q b.exits b.depth b.loops in
    ⊎_elim
    (λ x. more_of p (Present e p q) (step r E) (λ a l. inl l) (next_left n p r E parts.0 k.0 x))
    (λ y. more_of q (Present e p q) (step r E) (λ a l. inr l) (next_left n q r E parts.1 k.1 y))
    h
next_left n (Suspend e p) r E b k h =
    let body : Bounded n p = record { exits = b.exits; depth = b.depth; loops = b.loops } in
    subst (λ t. LeavesOf (Suspend e p) (step t E)) (sym h.1)
    (chosen_of (Suspend e p) (value e E) _ (leaves (λ a. Awake e a) (step h.0 E))
    (λ c. (h.0, refl, h.2))
    (leaving_of p (Suspend e p) (λ a. Awake e a) (step h.0 E) (λ a l. (a, refl, l)) (next_left n p h.0 E body k h.2)))
next_left n (Seq p q) r E b k h =
    let parts = bounded_parts n p q b.exits b.depth b.loops in
    ⊎_elim
    (λ x. subst (λ t. LeavesOf (Seq p q) (step t E)) (sym x.1)
    (sequence_of p q (Seq p q) (step x.0 E) (step q E) (λ a l. inl (a, refl, l)) (next_left n p x.0 E parts.0 k.0 x.2)
    (λ y is z. more_of q (Seq p q) (step q E)
    (λ a l. inr (
      or_right (started_codes p 0) (resumed_codes p 0) (left_codes n p x.0 parts.0 x.2 0
          (subst (λ c. started_codes x.0 c ≡ true) z (step_keeps_static_codes_lem x.0 E y is))),
      l,
    ))
    (first_left n q E parts.1.exits k.1))))
    (λ y. more_of q (Seq p q) (step r E) (λ a l. inr (y.0, l)) (next_left n q r E parts.1 k.1 y.1))
    h
next_left n (Loop at p) r E b k h =
    let body = bounded_body n at p b in
    subst (λ t. LeavesOf (Loop at p) (step t E)) (sym h.1)
    (sequence_of p (Loop at p) (Loop at p) (step h.0 E) (step (Loop at p) E) (λ a l. (a, refl, l)) (next_left n p h.0 E body.0 k h.2)
    (λ y is z. first_left n (Loop at p) E b.exits k))
next_left n (Par p q) r E b k h =
    let parts = bounded_parts n p q b.exits b.depth b.loops in
    subst (λ t. LeavesOf (Par p q) (step t E)) (sym h.2)
    (both_of p q h.0 h.1 E
    (λ l. branch_of p h.0 E (λ z. or_right (started_codes p 0) (resumed_codes p 0) (left_codes n p h.0 parts.0 l 0 z)) (next_left n p h.0 E parts.0 k.0 l))
    (λ l. branch_of q h.1 E (λ z. or_right (started_codes q 0) (resumed_codes q 0) (left_codes n q h.1 parts.1 l 0 z)) (next_left n q h.1 E parts.1 k.1 l))
    h.3)
next_left n (Trap p) r E b k h =
    subst (λ t. LeavesOf (Trap p) (step t E)) (sym h.1) (trap_of p (step h.0 E) (next_left (n + 1) p h.0 E (bounded_trap n p b) k h.2))
next_left n (Local s p) r E b k h =
    let body : Bounded n p = record { exits = b.exits; depth = b.depth; loops = b.loops } in
    let v = decided h.0 E s in
    subst (λ t. LeavesOf (Local s p) (step t E)) (sym h.1) (local_of v s p (step h.0 (with_status E s v)) (next_left n p h.0 (with_status E s v) body k h.2))
next_left n (Awake e p) r E b k h = absurd h

-- what is left by a step and the steps after it
step_left : (p r : Term) (rest : List Environment) (o : Option Step) → LeavesOf p o → option_and_then (λ t. left_after t rest) (left_by_step o) ≡ Some r →
    ((t : Term) → LeftOf p t → left_after t rest ≡ Some r → LeftOf p r) → LeftOf p r
step_left p r rest None l f later = cc
step_left p r rest (Some x) l f later = with_code (x.code == 1) refl f
  where
    with_code : (c : Bool) → (x.code == 1) ≡ c → option_and_then (λ t. left_after t rest) (cond c (Some x.residual) None) ≡ Some r → LeftOf p r
    with_code true is g = later x.residual (l (eqb-true x.code 1 is)) g
    with_code false is g = cc

after_left : (n : ℕ) (p t : Term) → Bounded n p → IsKernel p → LeftOf p t → (rest : List Environment) (r : Term) → left_after t rest ≡ Some r → LeftOf p r
after_left n p t b k h [] r e = let is : t ≡ r = cc in subst (λ x. LeftOf p x) is h
after_left n p t b k h (E ∷ rest) r e = step_left p r rest (step t E) (next_left n p t E b k h) e (λ x l f. after_left n p x b k l rest r f)

pub left_completes_as_resumed_lem : LeftCompletesAsResumed
left_completes_as_resumed_lem p k limits loops E rest r left F x steps =
    let b : Bounded 0 p = record { exits = limits.exits; depth = omega (arith, limits.traps); loops = loops } in
    let of = step_left p r rest (step p E) (first_left 0 p E limits.exits k) left (λ t l f. after_left 0 p t b k l rest r f) in
    left_codes 0 p r b of x.code (step_keeps_static_codes_lem r F x steps)

pub trees_are_kernels_lem : TreesAreKernels
trees_are_kernels_lem kernels.Nothing = tt
trees_are_kernels_lem kernels.Pause = tt
trees_are_kernels_lem (kernels.Emit s) = tt
trees_are_kernels_lem (kernels.Exit k) = tt
trees_are_kernels_lem (kernels.Present' e _ p _ q) = (trees_are_kernels_lem p, trees_are_kernels_lem q)
trees_are_kernels_lem (kernels.Suspend' e _ p) = trees_are_kernels_lem p
trees_are_kernels_lem (kernels.Seq' _ p _ q) = (trees_are_kernels_lem p, trees_are_kernels_lem q)
trees_are_kernels_lem (kernels.Loop' at _ p) = trees_are_kernels_lem p
trees_are_kernels_lem (kernels.Par' _ p _ q) = (trees_are_kernels_lem p, trees_are_kernels_lem q)
trees_are_kernels_lem (kernels.Trap' _ p) = trees_are_kernels_lem p
trees_are_kernels_lem (kernels.Local' s _ p) = trees_are_kernels_lem p

pub trap_code-one : (c : ℕ) → trap_code c ≡ 1 → c ≡ 1
trap_code-one zero h = absurd (omega (arith, h))
trap_code-one (suc zero) h = refl
trap_code-one (suc (suc zero)) h = absurd (omega (arith, h))
trap_code-one (suc (suc (suc k))) h = absurd (omega (arith, h))
