-- The static codes: where no loop is instantaneous, what a term may do completes with one of them, and
-- so does each step.
use Rattle.std.proofs.Common.{◌≡◌, ℕ, suc, ◌+◌, Bool, true, false, ◌==◌, cond, List, [], ◌∷◌, ◌++◌, length, Option, Some, None, refl, subst, ⊎_elim, arith}
use Rattle.std.proofs.Common.{length-append}
use Rattle.std.proofs.lemmas.Bool.{or_cases, or_left, or_right, eqb-true, eqb-false, eq-eqb, cond_both, both_ways}
use Rattle.base_types.specs.declared.place.Span.{Span}
use Rattle.base_types.specs.Codes.{only, either, except, maxima, lowered}
use Rattle.est_kernel.specs.Terms.{Term, Nothing, Pause, Emit, Exit, Present, Suspend, Seq, Loop, Par, Trap, Local, Awake}
use Rattle.est_kernel.specs.Statuses.{Status, Plus, Minus, Unknown, Environment, with_status, value}
use Rattle.est_kernel.specs.Potentials.{May, Potentials, completes, chosen, sequence, decided, local_status, potential}
use Rattle.est_kernel.specs.Steps.{Step, step, leaving, leaves, chosen_step, then_step, sequence_step, loop_step, parallel_step, trap_step, local_step}
use Rattle.est_kernel.specs.Steps.{where_known}
use Rattle.est_kernel.specs.StaticCodes.{started_codes, instant_loops}
use Rattle.est_kernel.specs.Laws.{IsSubset, MayKeepsStaticCodes, StepKeepsStaticCodes, PreorderHasEachStatement}
use Rattle.est_kernel.proofs.Sets.{except-in, maxima-in, maxima-subset, lowered-in, lowered-subset}
use Rattle.est_kernel.proofs.PotentialLaws.{sequence_codes-parts}

pub append-nil : (xs ys : List Span) → xs ++ ys ≡ [] → (xs ≡ []) × (ys ≡ [])
append-nil [] ys e = (refl, e)
append-nil (x ∷ xs) ys e = cc

-- the static codes of a sequence
abbrev pub static_sequence : (ℕ → Bool) → (ℕ → Bool) → ℕ → Bool
static_sequence A B = cond (A 0) (either (except 0 A) B) A

pub static_first : (A B : ℕ → Bool) (k : ℕ) → A k ≡ true → (k ≡ 0 → ⊥) → static_sequence A B k ≡ true
static_first A B k h n =
    cond_both (A 0) (either (except 0 A) B) A (λ S. S k ≡ true)
    (λ e. or_left (except 0 A k) (B k) (except-in A 0 k h n))
    (λ e. h)

pub static_second : (A B : ℕ → Bool) (k : ℕ) → A 0 ≡ true → B k ≡ true → static_sequence A B k ≡ true
static_second A B k z h =
    cond_both (A 0) (either (except 0 A) B) A (λ S. S k ≡ true)
    (λ e. or_right (except 0 A k) (B k) h)
    (λ e. absurd (both_ways (A 0) e z))

-- what may be done in a choice completes with a code of either branch
chosen_may : (v : Status) (a b : Potentials) (A B : ℕ → Bool) → IsSubset (a May).codes A → IsSubset (b May).codes B →
    IsSubset (chosen v a b May).codes (either A B)
chosen_may Plus a b A B f g k h = or_left (A k) (B k) (f k h)
chosen_may Minus a b A B f g k h = or_right (A k) (B k) (g k h)
chosen_may Unknown a b A B f g k h =
    ⊎_elim (λ x. or_left (A k) (B k) (f k x)) (λ y. or_right (A k) (B k) (g k y))
    (or_cases ((a May).codes k) ((b May).codes k) h)

sequence_may : (a b : Potentials) (A B : ℕ → Bool) → IsSubset (a May).codes A → IsSubset (b May).codes B →
    IsSubset (sequence May (a May) (b May)).codes (static_sequence A B)
sequence_may a b A B f g k h =
    ⊎_elim
    (λ x. static_first A B k (f k x.0) x.1)
    (λ y. static_second A B k (f 0 y.0) (g k y.1))
    (sequence_codes-parts May (a May) (b May) k h)

pub not_instant : (c : Bool) (at : Span) → cond c (at ∷ []) [] ≡ [] → c ≡ false
not_instant true at e = cc
not_instant false at e = refl

pub may_keeps_static_codes_lem : MayKeepsStaticCodes
may_keeps_static_codes_lem Nothing E n = λ k h. h
may_keeps_static_codes_lem Pause E n = λ k h. h
may_keeps_static_codes_lem (Emit s) E n = λ k h. h
may_keeps_static_codes_lem (Exit c) E n = λ k h. h
may_keeps_static_codes_lem (Present e p q) E n =
    let parts = append-nil (instant_loops p) (instant_loops q) n in
    chosen_may (value e E) (potential p E) (potential q E) (started_codes p) (started_codes q)
    (may_keeps_static_codes_lem p E parts.0) (may_keeps_static_codes_lem q E parts.1)
may_keeps_static_codes_lem (Suspend e p) E n = may_keeps_static_codes_lem p E n
may_keeps_static_codes_lem (Seq p q) E n =
    let parts = append-nil (instant_loops p) (instant_loops q) n in
    sequence_may (potential p E) (potential q E) (started_codes p) (started_codes q)
    (may_keeps_static_codes_lem p E parts.0) (may_keeps_static_codes_lem q E parts.1)
may_keeps_static_codes_lem (Loop at p) E n = λ k h.
    let parts = append-nil (cond (started_codes p 0) (at ∷ []) []) (instant_loops p) n in
    let never : started_codes p 0 ≡ false = not_instant (started_codes p 0) at parts.0 in
    let within : started_codes p k ≡ true = may_keeps_static_codes_lem p E parts.1 k h in
    except-in (started_codes p) 0 k within
    (λ e. both_ways (started_codes p 0) never (subst (λ j. started_codes p j ≡ true) e within))
may_keeps_static_codes_lem (Par p q) E n =
    let parts = append-nil (instant_loops p) (instant_loops q) n in
    maxima-subset _ _ (started_codes p) (started_codes q)
    (may_keeps_static_codes_lem p E parts.0) (may_keeps_static_codes_lem q E parts.1)
may_keeps_static_codes_lem (Trap p) E n =
    lowered-subset _ (started_codes p) (may_keeps_static_codes_lem p E n)
may_keeps_static_codes_lem (Local s p) E n =
    may_keeps_static_codes_lem p (with_status E s (local_status s (potential p (with_status E s Unknown)) May)) n
may_keeps_static_codes_lem (Awake e p) E n =
    chosen_may (value e E) (λ j. completes 1) (potential p E) (only 1) (started_codes p)
    (λ k h. h) (may_keeps_static_codes_lem p E n)

-- a step's code, where there is one, is in the set
abbrev HasCode : (ℕ → Bool) → Option Step → Type 0
HasCode A None = Unit {0}
HasCode A (Some x) = A x.code ≡ true

chosen_code : (v : Status) (A B : ℕ → Bool) (o n : Option Step) → HasCode A o → HasCode B n → HasCode (either A B) (chosen_step v o n)
chosen_code Plus A B None n h g = tt
chosen_code Plus A B (Some x) n h g = or_left (A x.code) (B x.code) h
chosen_code Minus A B o None h g = tt
chosen_code Minus A B o (Some y) h g = or_right (A y.code) (B y.code) g
chosen_code Unknown A B o n h g = tt

leaves_code : (f : Term → Term) (A : ℕ → Bool) (o : Option Step) → HasCode A o → HasCode A (leaves f o)
leaves_code f A None h = tt
leaves_code f A (Some x) h = h

then_code : (A B : ℕ → Bool) (x : Step) (n : Option Step) → A 0 ≡ true → HasCode B n → HasCode (static_sequence A B) (then_step x n)
then_code A B x None z g = tt
then_code A B x (Some y) z g = static_second A B y.code z g

sequence_code : (q : Term) (A B : ℕ → Bool) (o n : Option Step) → HasCode A o → HasCode B n → HasCode (static_sequence A B) (sequence_step q o n)
sequence_code q A B None n h g = tt
sequence_code q A B (Some x) n h g =
    cond_both (x.code == 0) (then_step x n) (Some (leaving (λ r. Seq r q) x))
    (λ s. HasCode (static_sequence A B) s)
    (λ e. then_code A B x n (subst (λ k. A k ≡ true) (eqb-true x.code 0 e) h) g)
    (λ e. static_first A B x.code h (eqb-false x.code 0 e))

loop_code : (whole : Term) (A : ℕ → Bool) (o : Option Step) → HasCode A o → HasCode (except 0 A) (loop_step whole o)
loop_code whole A None h = tt
loop_code whole A (Some x) h =
    cond_both (x.code == 0) None (Some (leaving (λ r. Seq r whole) x)) (λ s. HasCode (except 0 A) s)
    (λ e. tt)
    (λ e. except-in A 0 x.code h (eqb-false x.code 0 e))

parallel_code : (A B : ℕ → Bool) (o n : Option Step) → HasCode A o → HasCode B n → HasCode (maxima A B) (parallel_step o n)
parallel_code A B None n h g = tt
parallel_code A B (Some x) None h g = tt
parallel_code A B (Some x) (Some y) h g = maxima-in A B x.code y.code h g

trap_code_in : (A : ℕ → Bool) (o : Option Step) → HasCode A o → HasCode (lowered A) (trap_step o)
trap_code_in A None h = tt
trap_code_in A (Some x) h = lowered-in A x.code h

local_code : (s : ℕ) (A : ℕ → Bool) (v : Status) (o : Option Step) → HasCode A o → HasCode A (where_known v (local_step s o))
local_code s A Plus None h = tt
local_code s A Plus (Some x) h = h
local_code s A Minus None h = tt
local_code s A Minus (Some x) h = h
local_code s A Unknown o h = tt

step_code : (p : Term) (E : Environment) → HasCode (started_codes p) (step p E)
step_code Nothing E = refl
step_code Pause E = refl
step_code (Emit s) E = refl
step_code (Exit c) E = eq-eqb c c refl
step_code (Present e p q) E =
    chosen_code (value e E) (started_codes p) (started_codes q) (step p E) (step q E) (step_code p E) (step_code q E)
step_code (Suspend e p) E = leaves_code (λ r. Awake e r) (started_codes p) (step p E) (step_code p E)
step_code (Seq p q) E =
    sequence_code q (started_codes p) (started_codes q) (step p E) (step q E) (step_code p E) (step_code q E)
step_code (Loop at p) E = loop_code (Loop at p) (started_codes p) (step p E) (step_code p E)
step_code (Par p q) E =
    parallel_code (started_codes p) (started_codes q) (step p E) (step q E) (step_code p E) (step_code q E)
step_code (Trap p) E = trap_code_in (started_codes p) (step p E) (step_code p E)
step_code (Local s p) E =
    let v = decided p E s in
    local_code s (started_codes p) v (step p (with_status E s v)) (step_code p (with_status E s v))
step_code (Awake e p) E =
    chosen_code (value e E) (only 1) (started_codes p) _ _ refl
    (leaves_code (λ r. Awake e r) (started_codes p) (step p E) (step_code p E))

pub step_keeps_static_codes_lem : StepKeepsStaticCodes
step_keeps_static_codes_lem p E x e = subst (λ o. HasCode (started_codes p) o) e (step_code p E)

-- a statement over two parts has one statement more than they have
two_parts : (a b : List Term) (m n : ℕ) → length a ≡ m → length b ≡ n → suc (length (a ++ b)) ≡ 1 + m + n
two_parts a b m n e f = omega (arith, length-append a b)

one_part : (a : List Term) (m : ℕ) → length a ≡ m → suc (length a) ≡ 1 + m
one_part a m e = omega arith

pub length-preorder : PreorderHasEachStatement
length-preorder Nothing = refl
length-preorder Pause = refl
length-preorder (Emit s) = refl
length-preorder (Exit k) = refl
length-preorder (Present e p q) = two_parts _ _ _ _ (length-preorder p) (length-preorder q)
length-preorder (Suspend e p) = one_part _ _ (length-preorder p)
length-preorder (Seq p q) = two_parts _ _ _ _ (length-preorder p) (length-preorder q)
length-preorder (Loop at p) = one_part _ _ (length-preorder p)
length-preorder (Par p q) = two_parts _ _ _ _ (length-preorder p) (length-preorder q)
length-preorder (Trap p) = one_part _ _ (length-preorder p)
length-preorder (Local s p) = one_part _ _ (length-preorder p)
length-preorder (Awake e p) = one_part _ _ (length-preorder p)
