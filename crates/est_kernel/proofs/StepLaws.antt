-- A step does just what Must says, and its code is a static one: one lemma per row, over any potentials
-- and steps, and then one induction each.
use Rattle.std.proofs.Common.{◌≡◌, ℕ, Bool, true, false, not, ◌&&◌, ◌||◌, ◌==◌, cond, max, Option, Some, None, refl, sym, ap, ◌∙◌, subst}
use Rattle.std.proofs.lemmas.Bool.{eqb-true, eqb-false, eq-eqb, ne_eqb, cond-true, cond-false, cond_both, false≢true}
use Rattle.base_facts.proofs.Tests.{or-equal, same-tests}
use Rattle.base_types.specs.Codes.{except, maxima, lowered}
use Rattle.est_kernel.specs.Terms.{Term, Nothing, Pause, Emit, Exit, Present, Suspend, Seq, Loop, Par, Trap, Local, Awake}
use Rattle.est_kernel.specs.Statuses.{Status, Plus, Minus, Unknown, Environment, with_status, value}
use Rattle.est_kernel.specs.Potentials.{PotentialKind, Must, Can, May, Potential, Potentials, completes, chosen, second_kind, codes_kept, sequence, in_turn}
use Rattle.est_kernel.specs.Potentials.{together}
use Rattle.est_kernel.specs.Potentials.{trapped, hidden, decided, potential}
use Rattle.est_kernel.specs.Steps.{Step, step, ended, leaving, leaves, chosen_step, then_step, sequence_step, loop_step, parallel_step, trap_code, trap_step}
use Rattle.est_kernel.specs.Steps.{local_step, where_known}
use Rattle.est_kernel.specs.Laws.{IsJust, StepIsWhatMustBeDone}
use Rattle.est_kernel.proofs.Sets.{maxima-in, maxima-parts, lowered-in, lowered-parts}

-- Must and Can, where there is a step, are just that step
abbrev Agree : Potential → Potential → Option Step → Type 0
Agree a b None = Unit {0}
Agree a b (Some x) = IsJust a x × IsJust b x

-- another residual
just_leaving : (a : Potential) (x : Step) (f : Term → Term) → IsJust a x → IsJust a (leaving f x)
just_leaving a x f j = record { signals = j.signals; codes = j.codes }

leaves_agree : (f : Term → Term) (a b : Potential) (o : Option Step) → Agree a b o → Agree a b (leaves f o)
leaves_agree f a b None h = tt
leaves_agree f a b (Some x) h = (just_leaving a x f h.0, just_leaving b x f h.1)

chosen_agree : (v : Status) (a b : Potentials) (o n : Option Step) → Agree (a Must) (a Can) o → Agree (b Must) (b Can) n →
    Agree (chosen v a b Must) (chosen v a b Can) (chosen_step v o n)
chosen_agree Plus a b o n h g = h
chosen_agree Minus a b o n h g = g
chosen_agree Unknown a b o n h g = tt

-- a sequence whose first part has a step that does not terminate
sequence_first : (k : PotentialKind) (a b : Potential) (x : Step) → IsJust a x → (x.code ≡ 0 → ⊥) → IsJust (sequence k a b) x
sequence_first k a b x j n =
    let e : a.codes 0 ≡ false = j.codes 0 ∙ ne_eqb 0 x.code (λ z. n (sym z)) in
    subst (λ c. IsJust c x) (sym (cond-false (a.codes 0) _ a e)) j

-- of a first part that just terminates no code is kept
never_both : (b : Bool) → (b && not b) ≡ false
never_both true = refl
never_both false = refl

except_none : (A : ℕ → Bool) → ((j : ℕ) → A j ≡ (j == 0)) → (j : ℕ) → except 0 A j ≡ false
except_none A f j = ap (λ b. b && not (j == 0)) (f j) ∙ never_both (j == 0)

kept_none : (k : PotentialKind) (A : ℕ → Bool) → ((j : ℕ) → A j ≡ (j == 0)) → (j : ℕ) → codes_kept k A j ≡ false
kept_none Must A f j = refl
kept_none Can A f j = except_none A f j
kept_none May A f j = except_none A f j

-- a sequence whose first part terminates
sequence_both : (k : PotentialKind) (a b : Potential) (x y z : Step) → IsJust a x → x.code ≡ 0 → IsJust b y
    → ((t : ℕ) → z.emitted t ≡ (x.emitted t || y.emitted t)) →
    z.code ≡ y.code → IsJust (sequence k a b) z
sequence_both k a b x y z f zero_code g signals code =
    let e : a.codes 0 ≡ true = f.codes 0 ∙ eq-eqb 0 x.code (sym zero_code) in
    let just_zero : (j : ℕ) → a.codes j ≡ (j == 0) = λ j. f.codes j ∙ ap (λ n. j == n) zero_code in
    subst (λ c. IsJust c z) (sym (cond-true (a.codes 0) _ a e))
    (record {
      signals = λ t. or-equal (f.signals t) (g.signals t) ∙ sym (signals t);
      codes = λ j. or-equal (kept_none k a.codes just_zero j) (g.codes j) ∙ ap (λ n. j == n) (sym code);
    })

just_second : (c : Bool) (b : Potentials) (y : Step) → c ≡ true → IsJust (b Can) y → IsJust (b (cond c Can May)) y
just_second true b y e j = j
just_second false b y e j = absurd (false≢true e)

then_agree : (a b : Potentials) (x : Step) (n : Option Step) → x.code ≡ 0 → IsJust (a Must) x × IsJust (a Can) x → Agree (b Must) (b Can) n →
    Agree (in_turn a b Must) (in_turn a b Can) (then_step x n)
then_agree a b x None z h g = tt
then_agree a b x (Some y) z h g =
    let e : (a Must).codes 0 ≡ true = h.0.codes 0 ∙ eq-eqb 0 x.code (sym z) in (
      sequence_both Must (a Must) (b Must) x y _ h.0 z g.0 (λ t. refl) refl,
      sequence_both Can (a Can) (b (second_kind Can a)) x y _ h.1 z (just_second ((a Must).codes 0) b y e g.1) (λ t. refl) refl,
    )

in_turn_agree : (q : Term) (a b : Potentials) (o n : Option Step) → Agree (a Must) (a Can) o → Agree (b Must) (b Can) n →
    Agree (in_turn a b Must) (in_turn a b Can) (sequence_step q o n)
in_turn_agree q a b None n h g = tt
in_turn_agree q a b (Some x) n h g =
    cond_both (x.code == 0) (then_step x n) (Some (leaving (λ r. Seq r q) x))
    (λ s. Agree (in_turn a b Must) (in_turn a b Can) s)
    (λ e. then_agree a b x n (eqb-true x.code 0 e) h g)
    (λ e. (
      just_leaving _ x (λ r. Seq r q) (sequence_first Must (a Must) (b Must) x h.0 (eqb-false x.code 0 e)),
      just_leaving _ x (λ r. Seq r q) (sequence_first Can (a Can) (b (second_kind Can a)) x h.1 (eqb-false x.code 0 e)),
    ))

loop_agree : (whole : Term) (a b : Potential) (o : Option Step) → Agree a b o → Agree a b (loop_step whole o)
loop_agree whole a b None h = tt
loop_agree whole a b (Some x) h =
    cond_both (x.code == 0) None (Some (leaving (λ r. Seq r whole) x)) (λ s. Agree a b s)
    (λ e. tt)
    (λ e. (just_leaving a x (λ r. Seq r whole) h.0, just_leaving b x (λ r. Seq r whole) h.1))

-- the maxima of two single codes are their maximum
maxima_just : (A B : ℕ → Bool) (i j : ℕ) → ((k : ℕ) → A k ≡ (k == i)) → ((k : ℕ) → B k ≡ (k == j)) → (k : ℕ) → maxima A B k ≡ (k == max i j)
maxima_just A B i j f g k =
    same-tests _ _
    (λ h.
    let r = maxima-parts A B k h in
    let left = eqb-true r.0 i (sym (f r.0) ∙ r.2) in
    let right = eqb-true r.1 j (sym (g r.1) ∙ r.3) in
    eq-eqb k (max i j) (r.4 ∙ ap (λ n. max n r.1) left ∙ ap (λ n. max i n) right))
    (λ h.
    subst (λ n. maxima A B n ≡ true) (sym (eqb-true k (max i j) h))
    (maxima-in A B i j (f i ∙ eq-eqb i i refl) (g j ∙ eq-eqb j j refl)))

together_just : (a b : Potential) (x y z : Step) → IsJust a x → IsJust b y → ((t : ℕ) → z.emitted t ≡ (x.emitted t || y.emitted t)) →
    z.code ≡ max x.code y.code → IsJust (together a b) z
together_just a b x y z f g signals code =
    record {
      signals = λ t. or-equal (f.signals t) (g.signals t) ∙ sym (signals t);
      codes = λ k. maxima_just a.codes b.codes x.code y.code f.codes g.codes k ∙ ap (λ n. k == n) (sym code);
    }

together_agree : (a b c d : Potential) (o n : Option Step) → Agree a b o → Agree c d n → Agree (together a c) (together b d) (parallel_step o n)
together_agree a b c d None n h g = tt
together_agree a b c d (Some x) None h g = tt
together_agree a b c d (Some x) (Some y) h g = (
  together_just a c x y _ h.0 g.0 (λ t. refl) refl,
  together_just b d x y _ h.1 g.1 (λ t. refl) refl,
)

-- what a trap makes of a single code
lowered_just : (A : ℕ → Bool) (j : ℕ) → ((k : ℕ) → A k ≡ (k == j)) → (k : ℕ) → lowered A k ≡ (k == trap_code j)
lowered_just A j f k =
    same-tests _ _
    (λ h.
    let r = lowered-parts A k h in
    eq-eqb k (trap_code j) (r.2 ∙ ap trap_code (eqb-true r.0 j (sym (f r.0) ∙ r.1))))
    (λ h.
    subst (λ n. lowered A n ≡ true) (sym (eqb-true k (trap_code j) h))
    (lowered-in A j (f j ∙ eq-eqb j j refl)))

trapped_agree : (a b : Potential) (o : Option Step) → Agree a b o → Agree (trapped a) (trapped b) (trap_step o)
trapped_agree a b None h = tt
trapped_agree a b (Some x) h = (
  record { signals = h.0.signals; codes = lowered_just a.codes x.code h.0.codes },
  record { signals = h.1.signals; codes = lowered_just b.codes x.code h.1.codes },
)

hidden_agree : (s : ℕ) (a b : Potential) (o : Option Step) → Agree a b o → Agree (hidden s a) (hidden s b) (local_step s o)
hidden_agree s a b None h = tt
hidden_agree s a b (Some x) h = (
  record { signals = λ t. ap (λ c. c && not (t == s)) (h.0.signals t); codes = h.0.codes },
  record { signals = λ t. ap (λ c. c && not (t == s)) (h.1.signals t); codes = h.1.codes },
)

known_agree : (v : Status) (a b : Potential) (o : Option Step) → Agree a b o → Agree a b (where_known v o)
known_agree Plus a b o h = h
known_agree Minus a b o h = h
known_agree Unknown a b o h = tt

just_ended : (c : ℕ) → IsJust (completes c) (ended c)
just_ended c = record { signals = λ t. refl; codes = λ k. refl }

agrees : (p : Term) (E : Environment) → Agree (potential p E Must) (potential p E Can) (step p E)
agrees Nothing E = (just_ended 0, just_ended 0)
agrees Pause E = (just_ended 1, just_ended 1)
agrees (Emit s) E = (
  record { signals = λ t. refl; codes = λ k. refl },
  record { signals = λ t. refl; codes = λ k. refl },
)
agrees (Exit c) E = (just_ended c, just_ended c)
agrees (Present e p q) E =
    chosen_agree (value e E) (potential p E) (potential q E) (step p E) (step q E) (agrees p E) (agrees q E)
agrees (Suspend e p) E = leaves_agree (λ r. Awake e r) _ _ (step p E) (agrees p E)
agrees (Seq p q) E =
    in_turn_agree q (potential p E) (potential q E) (step p E) (step q E) (agrees p E) (agrees q E)
agrees (Loop at p) E = loop_agree (Loop at p) _ _ (step p E) (agrees p E)
agrees (Par p q) E = together_agree _ _ _ _ (step p E) (step q E) (agrees p E) (agrees q E)
agrees (Trap p) E = trapped_agree _ _ (step p E) (agrees p E)
agrees (Local s p) E =
    let v = decided p E s in
    known_agree v _ _ _ (hidden_agree s _ _ (step p (with_status E s v)) (agrees p (with_status E s v)))
agrees (Awake e p) E =
    chosen_agree (value e E) (λ j. completes 1) (potential p E) _ _ (
      record { signals = λ t. refl; codes = λ k. refl },
      record { signals = λ t. refl; codes = λ k. refl },
    )
    (leaves_agree (λ r. Awake e r) _ _ (step p E) (agrees p E))

pub step_is_what_must_be_done_lem : StepIsWhatMustBeDone
step_is_what_must_be_done_lem p E x e =
    subst (λ o. Agree (potential p E Must) (potential p E Can) o) e (agrees p E)

pub same_step : (a b : Step) → Some a ≡ Some b → a ≡ b
same_step a b h = cc
