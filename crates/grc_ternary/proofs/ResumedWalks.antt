-- The three-valued walk of what a selection leaves of a statement, part by part: each part is walked, a part that holds
-- no selected pause as one that does not run. It is the walk of the residual term.
use Rattle.std.proofs.Common.{◌≡◌, ℕ, zero, suc, ◌+◌, Bool, true, false, not, ◌&&◌, ◌||◌, ◌==◌, cond, refl, sym, ap, ◌∙◌, subst}
use Rattle.std.proofs.lemmas.Bool.{false≢true}
use Rattle.est_kernel.specs.Terms.{Term, Nothing, Pause, Emit, Exit, Present, Suspend, Seq, Loop, Par, Trap, Local, Awake}
use Rattle.est_kernel.specs.Statuses.{Status, Plus, Minus, Unknown, Environment, with_status, known, value, opposite, conjunction, disjunction}
use Rattle.est_kernel.specs.Preorder.{statement_count}
use Rattle.est_kernel.proofs.Exports.{conjunction-minus, disjunction-minus}
use Rattle.grc_graph.specs.Residuals.{holds, left_if, residual}
use Rattle.grc_graph.specs.Selected.{IsSelected}
use Rattle.est_ternary.specs.TriWalks.{Tri, where_met, tri_idle, tri_completes, tri_either, tri_in_turn, tri_upto, tri_together, tri_trapped, tri_lowered}
use Rattle.est_ternary.specs.TriWalks.{tri_hidden, tri, tri_decided}
use Rattle.est_ternary.specs.KnownPlaces.{IsKnown, Known}
use Rattle.est_ternary.proofs.Exports.{silent_walk, idle_known, known_go}
use Rattle.grc_ternary.proofs.Formulas.{met_absent}

-- the codes of a branch of a parallel: where it holds no selected pause it is over, and counts as code 0
abbrev pub over_codes : Bool → Status → (ℕ → Status) → ℕ → Status
over_codes h g A k = cond h (A k) (where_met (k == 0) g)

abbrev pub tri_branch : Bool → Status → Tri → Tri
tri_branch h g a = record { signals = a.signals; codes = over_codes h g a.codes }

-- a part that runs with the whole where it holds a selected pause
abbrev pub part_go : Status → (ℕ → Bool) → Term → ℕ → Status
part_go g S p n = conjunction g (known (holds S p n))

-- The walk of what is left of a statement at n, where it runs with status g.
abbrev pub resumed_tri : (ℕ → Bool) → Term → ℕ → Status → Environment → Tri
resumed_tri S Pause n g E = tri_completes 0 g
resumed_tri S (Present e p q) n g E =
    tri_either (resumed_tri S p (n + 1) (part_go g S p (n + 1)) E)
    (resumed_tri S q (n + 1 + statement_count p) (part_go g S q (n + 1 + statement_count p)) E)
resumed_tri S (Suspend e p) n g E =
    tri_either (tri_completes 1 (conjunction g (value e E))) (resumed_tri S p (n + 1) (conjunction g (opposite (value e E))) E)
resumed_tri S (Seq p q) n g E =
    tri_either
    (tri_in_turn (resumed_tri S p (n + 1) (part_go g S p (n + 1)) E)
    (tri q ((resumed_tri S p (n + 1) (part_go g S p (n + 1)) E).codes 0) E))
    (resumed_tri S q (n + 1 + statement_count p) (part_go g S q (n + 1 + statement_count p)) E)
resumed_tri S (Loop at p) n g E = tri_in_turn (resumed_tri S p (n + 1) g E) (tri p ((resumed_tri S p (n + 1) g E).codes 0) E)
resumed_tri S (Par p q) n g E =
    tri_together
    (tri_branch (holds S p (n + 1)) g (resumed_tri S p (n + 1) (part_go g S p (n + 1)) E))
    (tri_branch (holds S q (n + 1 + statement_count p)) g
    (resumed_tri S q (n + 1 + statement_count p) (part_go g S q (n + 1 + statement_count p)) E))
resumed_tri S (Trap p) n g E = tri_trapped (resumed_tri S p (n + 1) g E)
resumed_tri S (Local s p) n g E =
    tri_hidden s (resumed_tri S p (n + 1) g (with_status E s ((resumed_tri S p (n + 1) g (with_status E s Unknown)).signals s)))
resumed_tri S _ n g E = tri_idle

-- the status that the walk of what is left of a body gives a local signal
abbrev pub resumed_decided : (ℕ → Bool) → Term → ℕ → Status → Environment → ℕ → Status
resumed_decided S p n g E s = (resumed_tri S p n g (with_status E s Unknown)).signals s

-- In that walk it is known of each place whether it runs, and of each local signal whether it is present.
abbrev pub KnownResumed : (ℕ → Bool) → Term → ℕ → Status → Environment → Type 0
KnownResumed S (Present e p q) n g E =
    IsKnown g
    × KnownResumed S p (n + 1) (part_go g S p (n + 1)) E
    × KnownResumed S q (n + 1 + statement_count p) (part_go g S q (n + 1 + statement_count p)) E
KnownResumed S (Suspend e p) n g E = IsKnown g × KnownResumed S p (n + 1) (conjunction g (opposite (value e E))) E
KnownResumed S (Seq p q) n g E =
    IsKnown g
    × KnownResumed S p (n + 1) (part_go g S p (n + 1)) E
    × KnownResumed S q (n + 1 + statement_count p) (part_go g S q (n + 1 + statement_count p)) E
    × Known q ((resumed_tri S p (n + 1) (part_go g S p (n + 1)) E).codes 0) E
KnownResumed S (Loop at p) n g E =
    IsKnown g × KnownResumed S p (n + 1) g E × Known p ((resumed_tri S p (n + 1) g E).codes 0) E
KnownResumed S (Par p q) n g E =
    IsKnown g
    × KnownResumed S p (n + 1) (part_go g S p (n + 1)) E
    × KnownResumed S q (n + 1 + statement_count p) (part_go g S q (n + 1 + statement_count p)) E
KnownResumed S (Trap p) n g E = IsKnown g × KnownResumed S p (n + 1) g E
KnownResumed S (Local s p) n g E =
    IsKnown g
    × IsKnown (resumed_decided S p (n + 1) g E s)
    × KnownResumed S p (n + 1) g (with_status E s (resumed_decided S p (n + 1) g E s))
KnownResumed S _ n g E = IsKnown g

-- ---- what does not run does nothing

maxima_idle : (k : ℕ) → (tri_together tri_idle tri_idle).codes k ≡ Minus
maxima_idle zero = refl
maxima_idle (suc k) = ap (λ v. conjunction (disjunction v Minus) (conjunction (disjunction v Minus) (disjunction Minus Minus))) (upto_idle k)
  where
    upto_idle : (k : ℕ) → tri_upto tri_idle.codes k ≡ Minus
    upto_idle zero = refl
    upto_idle (suc k) = ap (λ v. disjunction v Minus) (upto_idle k)

together_idle : tri_together tri_idle tri_idle ≡ tri_idle
together_idle = λ i. record { signals = λ t. Minus; codes = λ k. maxima_idle k i }

lowered_idle : (k : ℕ) → tri_lowered tri_idle.codes k ≡ Minus
lowered_idle zero = refl
lowered_idle (suc zero) = refl
lowered_idle (suc (suc k)) = refl

trapped_idle : tri_trapped tri_idle ≡ tri_idle
trapped_idle = λ i. record { signals = λ t. Minus; codes = λ k. lowered_idle k i }

completes_idle : (c : ℕ) → tri_completes c Minus ≡ tri_idle
completes_idle c = λ i. record { signals = λ t. Minus; codes = λ k. met_absent (k == c) i }

hidden_idle : (s : ℕ) → tri_hidden s tri_idle ≡ tri_idle
hidden_idle s = λ i. record { signals = λ t. met_absent (not (t == s)) i; codes = λ k. Minus }

in_turn_idle : tri_in_turn tri_idle tri_idle ≡ tri_idle
in_turn_idle = λ i. record { signals = λ t. Minus; codes = λ k. ap (λ v. disjunction v Minus) (met_absent (not (k == 0))) i }

over_idle : (h : Bool) (k : ℕ) → over_codes h Minus tri_idle.codes k ≡ Minus
over_idle true k = refl
over_idle false k = met_absent (k == 0)

branch_idle : (h : Bool) → tri_branch h Minus tri_idle ≡ tri_idle
branch_idle h = λ i. record { signals = λ t. Minus; codes = λ k. over_idle h k i }

pub silent : (S : ℕ → Bool) (t : Term) (n : ℕ) (E : Environment) → resumed_tri S t n Minus E ≡ tri_idle
silent S Pause n E = completes_idle 0
silent S (Present e p q) n E =
    ap (λ a. tri_either a (resumed_tri S q (n + 1 + statement_count p) Minus E)) (silent S p (n + 1) E)
    ∙ ap (λ b. tri_either tri_idle b) (silent S q (n + 1 + statement_count p) E)
silent S (Suspend e p) n E =
    ap (λ a. tri_either a (resumed_tri S p (n + 1) Minus E)) (completes_idle 1) ∙ ap (λ b. tri_either tri_idle b) (silent S p (n + 1) E)
silent S (Seq p q) n E =
    ap (λ a. tri_either (tri_in_turn a (tri q (a.codes 0) E)) (resumed_tri S q (n + 1 + statement_count p) Minus E)) (silent S p (n + 1) E)
    ∙ ap (λ b. tri_either (tri_in_turn tri_idle b) (resumed_tri S q (n + 1 + statement_count p) Minus E)) (silent_walk q E)
    ∙ ap (λ a. tri_either a (resumed_tri S q (n + 1 + statement_count p) Minus E)) in_turn_idle
    ∙ ap (λ b. tri_either tri_idle b) (silent S q (n + 1 + statement_count p) E)
silent S (Loop at p) n E =
    ap (λ a. tri_in_turn a (tri p (a.codes 0) E)) (silent S p (n + 1) E) ∙ ap (λ b. tri_in_turn tri_idle b) (silent_walk p E) ∙ in_turn_idle
silent S (Par p q) n E =
    let m = n + 1 + statement_count p in
    let hp = holds S p (n + 1) in
    let hq = holds S q m in
    ap (λ a. tri_together (tri_branch hp Minus a) (tri_branch hq Minus (resumed_tri S q m Minus E))) (silent S p (n + 1) E)
    ∙ ap (λ b. tri_together (tri_branch hp Minus tri_idle) (tri_branch hq Minus b)) (silent S q m E)
    ∙ ap (λ a. tri_together a (tri_branch hq Minus tri_idle)) (branch_idle hp)
    ∙ ap (λ b. tri_together tri_idle b) (branch_idle hq)
    ∙ together_idle
silent S (Trap p) n E = ap (λ a. tri_trapped a) (silent S p (n + 1) E) ∙ trapped_idle
silent S (Local s p) n E =
    ap (λ a. tri_hidden s a) (silent S p (n + 1) (with_status E s (resumed_decided S p (n + 1) Minus E s))) ∙ hidden_idle s
silent S _ n E = refl

-- ---- a part that holds no selected pause, and one that holds one

pub conjunction_plus : (g : Status) → conjunction g Plus ≡ g
conjunction_plus Plus = refl
conjunction_plus _ = refl

pub part_on : (g : Status) (S : ℕ → Bool) (p : Term) (n : ℕ) → holds S p n ≡ true → part_go g S p n ≡ g
part_on g S p n e = ap (λ b. conjunction g (known b)) e ∙ conjunction_plus g

pub part_off : (g : Status) (S : ℕ → Bool) (p : Term) (n : ℕ) → holds S p n ≡ false → part_go g S p n ≡ Minus
part_off g S p n e = ap (λ b. conjunction g (known b)) e ∙ conjunction-minus g

pub idle_part : (S : ℕ → Bool) (p : Term) (n : ℕ) (g : Status) (E : Environment) → holds S p n ≡ false → resumed_tri S p n (part_go g S p n) E ≡ tri_idle
idle_part S p n g E e = ap (λ v. resumed_tri S p n v E) (part_off g S p n e) ∙ silent S p n E

pub either_left : (a : Tri) → tri_either a tri_idle ≡ a
either_left a = λ i. record { signals = λ t. disjunction-minus (a.signals t) i; codes = λ k. disjunction-minus (a.codes k) i }

-- ---- it is the walk of the residual term

abbrev Same : (ℕ → Bool) → Term → ℕ → Status → Environment → Type 0
Same S t n g E = resumed_tri S t n g E ≡ tri (residual S t n) g E

part_same : (S : ℕ → Bool) (p : Term) (n : ℕ) (g : Status) (E : Environment) → holds S p n ≡ true → Same S p n g E →
    resumed_tri S p n (part_go g S p n) E ≡ tri (residual S p n) g E
part_same S p n g E h e = ap (λ v. resumed_tri S p n v E) (part_on g S p n h) ∙ e

-- of two parts one holds selected pauses
module _ (S : ℕ → Bool) (p q : Term) (n m : ℕ) (g : Status) (E : Environment) where
  choice_same : (b : Bool) → holds S p n ≡ b → (b && holds S q m) ≡ false → (b || holds S q m) ≡ true → (holds S p n ≡ true → Same S p n g E) →
      (holds S q m ≡ true → Same S q m g E) →
      tri_either (resumed_tri S p n (part_go g S p n) E) (resumed_tri S q m (part_go g S q m) E) ≡ tri (cond b (residual S p n) (residual S q m)) g E
  choice_same true h o t f k =
      ap (λ a. tri_either a (resumed_tri S q m (part_go g S q m) E)) (part_same S p n g E h (f h))
      ∙ ap (λ b. tri_either (tri (residual S p n) g E) b) (idle_part S q m g E o)
      ∙ either_left (tri (residual S p n) g E)
  choice_same false h o t f k =
      ap (λ a. tri_either a (resumed_tri S q m (part_go g S q m) E)) (idle_part S p n g E h)
      ∙ part_same S q m g E t (k t)

  sequence_same : (b : Bool) → holds S p n ≡ b → (b && holds S q m) ≡ false → (b || holds S q m) ≡ true → (holds S p n ≡ true → Same S p n g E) →
      (holds S q m ≡ true → Same S q m g E) →
      tri_either (tri_in_turn (resumed_tri S p n (part_go g S p n) E) (tri q ((resumed_tri S p n (part_go g S p n) E).codes 0) E))
      (resumed_tri S q m (part_go g S q m) E) ≡ tri (cond b (Seq (residual S p n) q) (residual S q m)) g E
  sequence_same true h o t f k =
      ap (λ a. tri_either (tri_in_turn a (tri q (a.codes 0) E)) (resumed_tri S q m (part_go g S q m) E)) (part_same S p n g E h (f h))
      ∙ ap (λ b. tri_either (tri (Seq (residual S p n) q) g E) b) (idle_part S q m g E o)
      ∙ either_left (tri (Seq (residual S p n) q) g E)
  sequence_same false h o t f k =
      ap (λ a. tri_either (tri_in_turn a (tri q (a.codes 0) E)) (resumed_tri S q m (part_go g S q m) E)) (idle_part S p n g E h)
      ∙ ap (λ b. tri_either (tri_in_turn tri_idle b) (resumed_tri S q m (part_go g S q m) E)) (silent_walk q E)
      ∙ ap (λ a. tri_either a (resumed_tri S q m (part_go g S q m) E)) in_turn_idle
      ∙ part_same S q m g E t (k t)

-- a branch of a parallel
branch_same : (S : ℕ → Bool) (p : Term) (n : ℕ) (g : Status) (E : Environment) (b : Bool) → holds S p n ≡ b → (holds S p n ≡ true → Same S p n g E) →
    tri_branch b g (resumed_tri S p n (part_go g S p n) E) ≡ tri (left_if b (residual S p n)) g E
branch_same S p n g E true h f = ap (λ a. tri_branch true g a) (part_same S p n g E h (f h))
branch_same S p n g E false h f = ap (λ a. tri_branch false g a) (idle_part S p n g E h)

pub left_walk : (S : ℕ → Bool) (t : Term) (n : ℕ) (g : Status) (E : Environment) → IsSelected S t n → holds S t n ≡ true →
    resumed_tri S t n g E ≡ tri (residual S t n) g E
left_walk S Pause n g E s h = refl
left_walk S (Present e p q) n g E s h =
    choice_same S p q (n + 1) (n + 1 + statement_count p) g E (holds S p (n + 1)) refl s.0 h
    (λ z. left_walk S p (n + 1) g E (s.1 z) z) (λ z. left_walk S q (n + 1 + statement_count p) g E (s.2 z) z)
left_walk S (Suspend e p) n g E s h =
    ap (λ b. tri_either (tri_completes 1 (conjunction g (value e E))) b) (left_walk S p (n + 1) (conjunction g (opposite (value e E))) E s h)
left_walk S (Seq p q) n g E s h =
    sequence_same S p q (n + 1) (n + 1 + statement_count p) g E (holds S p (n + 1)) refl s.0 h
    (λ z. left_walk S p (n + 1) g E (s.1 z) z) (λ z. left_walk S q (n + 1 + statement_count p) g E (s.2 z).1 z)
left_walk S (Loop at p) n g E s h = ap (λ a. tri_in_turn a (tri p (a.codes 0) E)) (left_walk S p (n + 1) g E s h)
left_walk S (Par p q) n g E s h =
    let m = n + 1 + statement_count p in
    let hp = holds S p (n + 1) in
    let hq = holds S q m in
    ap (λ a. tri_together a (tri_branch hq g (resumed_tri S q m (part_go g S q m) E)))
    (branch_same S p (n + 1) g E hp refl (λ z. left_walk S p (n + 1) g E (s.2 z) z))
    ∙ ap (λ b. tri_together (tri (left_if hp (residual S p (n + 1))) g E) b)
    (branch_same S q m g E hq refl (λ z. left_walk S q m g E (s.3 z) z))
left_walk S (Trap p) n g E s h = ap (λ a. tri_trapped a) (left_walk S p (n + 1) g E s h)
left_walk S (Local x p) n g E s h =
    let v = left_walk S p (n + 1) g (with_status E x Unknown) s h in
    ap (λ a. tri_hidden x (resumed_tri S p (n + 1) g (with_status E x (a.signals x)))) v
    ∙ ap (λ a. tri_hidden x a) (left_walk S p (n + 1) g (with_status E x (tri_decided (residual S p (n + 1)) g E x)) s h)
left_walk S _ n g E s h = absurd (false≢true h)

-- ---- and asks for nothing else

-- what does not run asks for nothing
pub quiet_known : (S : ℕ → Bool) (t : Term) (n : ℕ) (E : Environment) → KnownResumed S t n Minus E
quiet_known S (Present e p q) n E = (tt, quiet_known S p (n + 1) E, quiet_known S q (n + 1 + statement_count p) E)
quiet_known S (Suspend e p) n E = (tt, quiet_known S p (n + 1) E)
quiet_known S (Seq p q) n E = (
  tt,
  quiet_known S p (n + 1) E,
  quiet_known S q (n + 1 + statement_count p) E,
  subst (λ a. Known q (a.codes 0) E) (sym (silent S p (n + 1) E)) (idle_known q E),
)
quiet_known S (Loop at p) n E =
    (tt, quiet_known S p (n + 1) E, subst (λ a. Known p (a.codes 0) E) (sym (silent S p (n + 1) E)) (idle_known p E))
quiet_known S (Par p q) n E = (tt, quiet_known S p (n + 1) E, quiet_known S q (n + 1 + statement_count p) E)
quiet_known S (Trap p) n E = (tt, quiet_known S p (n + 1) E)
quiet_known S (Local x p) n E = (
  tt,
  subst (λ a. IsKnown (a.signals x)) (sym (silent S p (n + 1) (with_status E x Unknown))) tt,
  quiet_known S p (n + 1) (with_status E x (resumed_decided S p (n + 1) Minus E x)),
)
quiet_known S _ n E = tt

pub resumed_go : (S : ℕ → Bool) (t : Term) (n : ℕ) (g : Status) (E : Environment) → KnownResumed S t n g E → IsKnown g
resumed_go S Nothing n g E k = k
resumed_go S Pause n g E k = k
resumed_go S (Emit x) n g E k = k
resumed_go S (Exit c) n g E k = k
resumed_go S (Awake e p) n g E k = k
resumed_go S _ n g E k = k.0

-- a part, by whether it holds a selected pause
on_known : (S : ℕ → Bool) (p : Term) (n : ℕ) (g : Status) (E : Environment) → holds S p n ≡ true → KnownResumed S p n (part_go g S p n) E
    → KnownResumed S p n g E
on_known S p n g E h k = subst (λ v. KnownResumed S p n v E) (part_on g S p n h) k

known_on : (S : ℕ → Bool) (p : Term) (n : ℕ) (g : Status) (E : Environment) → holds S p n ≡ true → KnownResumed S p n g E
    → KnownResumed S p n (part_go g S p n) E
known_on S p n g E h k = subst (λ v. KnownResumed S p n v E) (sym (part_on g S p n h)) k

known_off : (S : ℕ → Bool) (p : Term) (n : ℕ) (g : Status) (E : Environment) → holds S p n ≡ false → KnownResumed S p n (part_go g S p n) E
known_off S p n g E h = subst (λ v. KnownResumed S p n v E) (sym (part_off g S p n h)) (quiet_known S p n E)

-- what is asked of the residual term of a statement
abbrev Left : (ℕ → Bool) → Term → ℕ → Status → Environment → Type 0
Left S t n g E = Known (residual S t n) g E

-- the code 0 of a first part that holds a selected pause
code_on : (S : ℕ → Bool) (p : Term) (n : ℕ) (g : Status) (E : Environment) → holds S p n ≡ true → Same S p n g E →
    (resumed_tri S p n (part_go g S p n) E).codes 0 ≡ (tri (residual S p n) g E).codes 0
code_on S p n g E h e = ap (λ a. a.codes 0) (part_same S p n g E h e)

-- the code 0 of one that holds none
code_off : (S : ℕ → Bool) (p : Term) (n : ℕ) (g : Status) (E : Environment) → holds S p n ≡ false →
    (resumed_tri S p n (part_go g S p n) E).codes 0 ≡ Minus
code_off S p n g E h = ap (λ a. a.codes 0) (idle_part S p n g E h)

module _ (S : ℕ → Bool) (p q : Term) (n m : ℕ) (g : Status) (E : Environment) where
  choice_left : (b : Bool) → holds S p n ≡ b → (b || holds S q m) ≡ true → (holds S p n ≡ true → KnownResumed S p n g E → Left S p n g E) →
      (holds S q m ≡ true → KnownResumed S q m g E → Left S q m g E) → KnownResumed S p n (part_go g S p n) E → KnownResumed S q m (part_go g S q m) E →
      Known (cond b (residual S p n) (residual S q m)) g E
  choice_left true h t f k x y = f h (on_known S p n g E h x)
  choice_left false h t f k x y = k t (on_known S q m g E t y)

  left_choice : (b : Bool) → holds S p n ≡ b → (b && holds S q m) ≡ false → (b || holds S q m) ≡ true →
      (holds S p n ≡ true → Left S p n g E → KnownResumed S p n g E) → (holds S q m ≡ true → Left S q m g E → KnownResumed S q m g E) →
      Known (cond b (residual S p n) (residual S q m)) g E → KnownResumed S p n (part_go g S p n) E × KnownResumed S q m (part_go g S q m) E
  left_choice true h o t f k x = (known_on S p n g E h (f h x), known_off S q m g E o)
  left_choice false h o t f k x = (known_off S p n g E h, known_on S q m g E t (k t x))

  sequence_left : (b : Bool) → holds S p n ≡ b → (b || holds S q m) ≡ true → (holds S p n ≡ true → Same S p n g E) →
      (holds S p n ≡ true → KnownResumed S p n g E → Left S p n g E) → (holds S q m ≡ true → KnownResumed S q m g E → Left S q m g E) → IsKnown g →
      KnownResumed S p n (part_go g S p n) E → KnownResumed S q m (part_go g S q m) E → Known q ((resumed_tri S p n (part_go g S p n) E).codes 0) E →
      Known (cond b (Seq (residual S p n) q) (residual S q m)) g E
  sequence_left true h t e f k i x y z = (i, f h (on_known S p n g E h x), subst (λ v. Known q v E) (code_on S p n g E h (e h)) z)
  sequence_left false h t e f k i x y z = k t (on_known S q m g E t y)

  left_sequence : (b : Bool) → holds S p n ≡ b → (b && holds S q m) ≡ false → (b || holds S q m) ≡ true → (holds S p n ≡ true → Same S p n g E) →
      (holds S p n ≡ true → Left S p n g E → KnownResumed S p n g E) → (holds S q m ≡ true → Left S q m g E → KnownResumed S q m g E) →
      Known (cond b (Seq (residual S p n) q) (residual S q m)) g E →
      KnownResumed S p n (part_go g S p n) E × KnownResumed S q m (part_go g S q m) E × Known q ((resumed_tri S p n (part_go g S p n) E).codes 0) E
  left_sequence true h o t e f k x =
      (known_on S p n g E h (f h x.1), known_off S q m g E o, subst (λ v. Known q v E) (sym (code_on S p n g E h (e h))) x.2)
  left_sequence false h o t e f k x =
      (known_off S p n g E h, known_on S q m g E t (k t x), subst (λ v. Known q v E) (sym (code_off S p n g E h)) (idle_known q E))

branch_left : (S : ℕ → Bool) (p : Term) (n : ℕ) (g : Status) (E : Environment) (b : Bool) → holds S p n ≡ b
    → (holds S p n ≡ true → KnownResumed S p n g E → Left S p n g E) →
    IsKnown g → KnownResumed S p n (part_go g S p n) E → Known (left_if b (residual S p n)) g E
branch_left S p n g E true h f i x = f h (on_known S p n g E h x)
branch_left S p n g E false h f i x = i

left_branch : (S : ℕ → Bool) (p : Term) (n : ℕ) (g : Status) (E : Environment) (b : Bool) → holds S p n ≡ b
    → (holds S p n ≡ true → Left S p n g E → KnownResumed S p n g E) →
    Known (left_if b (residual S p n)) g E → KnownResumed S p n (part_go g S p n) E
left_branch S p n g E true h f x = known_on S p n g E h (f h x)
left_branch S p n g E false h f x = known_off S p n g E h

left_go : (S : ℕ → Bool) (t : Term) (n : ℕ) (g : Status) (E : Environment) → Left S t n g E → IsKnown g
left_go S t n g E k = known_go (residual S t n) g E k

pub left_known : (S : ℕ → Bool) (t : Term) (n : ℕ) (g : Status) (E : Environment) → IsSelected S t n → holds S t n ≡ true → KnownResumed S t n g E →
    Known (residual S t n) g E
left_known S Pause n g E s h k = k
left_known S (Present e p q) n g E s h k =
    let m = n + 1 + statement_count p in
    choice_left S p q (n + 1) m g E (holds S p (n + 1)) refl h
    (λ z x. left_known S p (n + 1) g E (s.1 z) z x) (λ z x. left_known S q m g E (s.2 z) z x) k.1 k.2
left_known S (Suspend e p) n g E s h k = (k.0, left_known S p (n + 1) (conjunction g (opposite (value e E))) E s h k.1)
left_known S (Seq p q) n g E s h k =
    let m = n + 1 + statement_count p in
    sequence_left S p q (n + 1) m g E (holds S p (n + 1)) refl h (λ z. left_walk S p (n + 1) g E (s.1 z) z)
    (λ z x. left_known S p (n + 1) g E (s.1 z) z x) (λ z x. left_known S q m g E (s.2 z).1 z x) k.0 k.1 k.2 k.3
left_known S (Loop at p) n g E s h k =
    let c = ap (λ a. a.codes 0) (left_walk S p (n + 1) g E s h) in
    let again = subst (λ v. Known p v E) c k.2 in
    (k.0, left_known S p (n + 1) g E s h k.1, (known_go p _ E again, again))
left_known S (Par p q) n g E s h k =
    let m = n + 1 + statement_count p in (
      k.0,
      branch_left S p (n + 1) g E (holds S p (n + 1)) refl (λ z x. left_known S p (n + 1) g E (s.2 z) z x) k.0 k.1,
      branch_left S q m g E (holds S q m) refl (λ z x. left_known S q m g E (s.3 z) z x) k.0 k.2,
    )
left_known S (Trap p) n g E s h k = (k.0, left_known S p (n + 1) g E s h k.1)
left_known S (Local x p) n g E s h k =
    let d = ap (λ a. a.signals x) (left_walk S p (n + 1) g (with_status E x Unknown) s h) in (
      k.0,
      subst IsKnown d k.1,
      left_known S p (n + 1) g (with_status E x (tri_decided (residual S p (n + 1)) g E x)) s h
          (subst (λ v. KnownResumed S p (n + 1) g (with_status E x v)) d k.2),
    )
left_known S _ n g E s h k = absurd (false≢true h)

pub known_left : (S : ℕ → Bool) (t : Term) (n : ℕ) (g : Status) (E : Environment) → IsSelected S t n → holds S t n ≡ true → Known (residual S t n) g E →
    KnownResumed S t n g E
known_left S Pause n g E s h k = k
known_left S (Present e p q) n g E s h k =
    let m = n + 1 + statement_count p in
    let parts = left_choice S p q (n + 1) m g E (holds S p (n + 1)) refl s.0 h
    (λ z x. known_left S p (n + 1) g E (s.1 z) z x) (λ z x. known_left S q m g E (s.2 z) z x) k in
    (left_go S (Present e p q) n g E k, parts.0, parts.1)
known_left S (Suspend e p) n g E s h k = (k.0, known_left S p (n + 1) (conjunction g (opposite (value e E))) E s h k.1)
known_left S (Seq p q) n g E s h k =
    let m = n + 1 + statement_count p in
    let parts = left_sequence S p q (n + 1) m g E (holds S p (n + 1)) refl s.0 h (λ z. left_walk S p (n + 1) g E (s.1 z) z)
    (λ z x. known_left S p (n + 1) g E (s.1 z) z x) (λ z x. known_left S q m g E (s.2 z).1 z x) k in
    (left_go S (Seq p q) n g E k, parts.0, parts.1, parts.2)
known_left S (Loop at p) n g E s h k =
    let c = ap (λ a. a.codes 0) (left_walk S p (n + 1) g E s h) in
    (k.0, known_left S p (n + 1) g E s h k.1, subst (λ v. Known p v E) (sym c) k.2.1)
known_left S (Par p q) n g E s h k =
    let m = n + 1 + statement_count p in (
      k.0,
      left_branch S p (n + 1) g E (holds S p (n + 1)) refl (λ z x. known_left S p (n + 1) g E (s.2 z) z x) k.1,
      left_branch S q m g E (holds S q m) refl (λ z x. known_left S q m g E (s.3 z) z x) k.2,
    )
known_left S (Trap p) n g E s h k = (k.0, known_left S p (n + 1) g E s h k.1)
known_left S (Local x p) n g E s h k =
    let d = ap (λ a. a.signals x) (left_walk S p (n + 1) g (with_status E x Unknown) s h) in (
      k.0,
      subst IsKnown (sym d) k.1,
      subst (λ v. KnownResumed S p (n + 1) g (with_status E x v)) (sym d)
          (known_left S p (n + 1) g (with_status E x (tri_decided (residual S p (n + 1)) g E x)) s h k.2),
    )
known_left S _ n g E s h k = absurd (false≢true h)
