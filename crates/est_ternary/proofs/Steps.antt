-- A term has a step where its walk asks for nothing that is unknown, and only there; the step is what the walk says.
use Rattle.std.proofs.Common.{◌≡◌, ℕ, Bool, true, false, ◌==◌, cond, [], ◌∷◌, Option, Some, None, ◌⊎◌, inl, inr, ⊎_elim, refl, sym, ap, ◌∙◌, subst}
use Rattle.std.proofs.lemmas.Bool.{eqb-true, eq-eqb, cond-true, both_ways}
use Rattle.est_kernel.specs.Terms.{Term, Nothing, Pause, Emit, Exit, Present, Suspend, Seq, Loop, Par, Trap, Local, Awake}
use Rattle.est_kernel.specs.Statuses.{Status, Plus, Minus, Unknown, Environment, with_status, known, value, opposite}
use Rattle.est_kernel.specs.Potentials.{decided}
use Rattle.est_kernel.specs.Steps.{Step, step, ended, leaving, leaves, chosen_step, then_step, sequence_step, loop_step, parallel_step, trap_step, local_step}
use Rattle.est_kernel.specs.Steps.{where_known}
use Rattle.est_kernel.specs.StaticCodes.{started_codes, instant_loops}
use Rattle.est_kernel.proofs.Exports.{step_is_what_must_be_done_lem, append-nil, not_instant, step_keeps_static_codes_lem}
use Rattle.est_ternary.specs.TriWalks.{tri, tri_decided}
use Rattle.est_ternary.specs.KnownPlaces.{IsKnown, Known}
use Rattle.est_ternary.specs.Laws.{sure, possible, StepsAreKnown, KnownSteps}
use Rattle.est_ternary.proofs.Rails.{two_rails}
use Rattle.est_ternary.proofs.Walks.{walk_tells, walk_decides, code_at, signal_at, silent_codes, silent_signals}
use Rattle.est_ternary.proofs.Solving.{known_where, where_is}

-- ---- the step is what the walk says

pub step_walk_codes : (p : Term) (E : Environment) (x : Step) → step p E ≡ Some x → (k : ℕ) → (tri p Plus E).codes k ≡ known (k == x.code)
step_walk_codes p E x e k =
    let just = step_is_what_must_be_done_lem p E x e in
    let tells = walk_tells p Plus E in
    two_rails _ (k == x.code)
    (code_at sure _ _ tells.sure k ∙ just.0.codes k) (code_at possible _ _ tells.possible k ∙ just.1.codes k)

pub step_walk_signals : (p : Term) (E : Environment) (x : Step) → step p E ≡ Some x → (t : ℕ) → (tri p Plus E).signals t ≡ known (x.emitted t)
step_walk_signals p E x e t =
    let just = step_is_what_must_be_done_lem p E x e in
    let tells = walk_tells p Plus E in
    two_rails _ (x.emitted t)
    (signal_at sure _ _ tells.sure t ∙ just.0.signals t) (signal_at possible _ _ tells.possible t ∙ just.1.signals t)

-- ---- what does not run asks for nothing

pub known_go : (p : Term) (g : Status) (E : Environment) → Known p g E → IsKnown g
known_go Nothing g E k = k
known_go Pause g E k = k
known_go (Emit s) g E k = k
known_go (Exit c) g E k = k
known_go (Present e p q) g E k = k.0
known_go (Suspend e p) g E k = k.0
known_go (Seq p q) g E k = k.0
known_go (Loop at p) g E k = k.0
known_go (Par p q) g E k = k.0
known_go (Trap p) g E k = k.0
known_go (Local s p) g E k = k.0
known_go (Awake e p) g E k = k.0

pub idle_known : (p : Term) (E : Environment) → Known p Minus E
idle_known Nothing E = tt
idle_known Pause E = tt
idle_known (Emit s) E = tt
idle_known (Exit c) E = tt
idle_known (Present e p q) E = (tt, idle_known p E, idle_known q E)
idle_known (Suspend e p) E = (tt, idle_known p E)
idle_known (Seq p q) E = (tt, idle_known p E, subst (λ g. Known q g E) (sym (silent_codes p E 0)) (idle_known q E))
idle_known (Loop at p) E = (tt, idle_known p E)
idle_known (Par p q) E = (tt, idle_known p E, idle_known q E)
idle_known (Trap p) E = (tt, idle_known p E)
idle_known (Local s p) E =
    (tt, subst IsKnown (sym (silent_signals p (with_status E s Unknown) s)) tt, idle_known p (with_status E s (tri_decided p Minus E s)))
idle_known (Awake e p) E = (tt, idle_known p E)

-- ---- where there is a step

-- what a step of each form says of the steps of the parts
abbrev pub HasStep : Option Step → Type 0
HasStep o = (x : Step) × (o ≡ Some x)

pub chosen_parts : (v : Status) (a b : Option Step) (x : Step) → chosen_step v a b ≡ Some x → ((v ≡ Plus) × (a ≡ Some x)) ⊎ ((v ≡ Minus) × (b ≡ Some x))
chosen_parts Plus a b x e = inl (refl, e)
chosen_parts Minus a b x e = inr (refl, e)
chosen_parts Unknown a b x e = cc

pub leaves_part : (f : Term → Term) (o : Option Step) (x : Step) → leaves f o ≡ Some x → HasStep o
leaves_part f None x e = cc
leaves_part f (Some y) x e = (y, refl)

then_part : (y : Step) (b : Option Step) (x : Step) → then_step y b ≡ Some x → HasStep b
then_part y None x e = cc
then_part y (Some z) x e = (z, refl)

pub sequence_parts : (q : Term) (a b : Option Step) (x : Step) → sequence_step q a b ≡ Some x → (y : Step) × (a ≡ Some y) × (y.code ≡ 0 → HasStep b)
sequence_parts q None b x e = cc
sequence_parts q (Some y) b x e =
    (y, refl, λ z. then_part y b x (sym (cond-true (y.code == 0) (then_step y b) _ (eq-eqb y.code 0 z)) ∙ e))

pub loop_part : (whole : Term) (a : Option Step) (x : Step) → loop_step whole a ≡ Some x → HasStep a
loop_part whole None x e = cc
loop_part whole (Some y) x e = (y, refl)

pub parallel_parts : (a b : Option Step) (x : Step) → parallel_step a b ≡ Some x → HasStep a × HasStep b
parallel_parts None b x e = cc
parallel_parts (Some y) None x e = cc
parallel_parts (Some y) (Some z) x e = ((y, refl), (z, refl))

pub trap_part : (a : Option Step) (x : Step) → trap_step a ≡ Some x → HasStep a
trap_part None x e = cc
trap_part (Some y) x e = (y, refl)

pub local_part : (s : ℕ) (a : Option Step) (x : Step) → local_step s a ≡ Some x → HasStep a
local_part s None x e = cc
local_part s (Some y) x e = (y, refl)

-- the second part of a sequence, where the first has a step
second_known : (q : Term) (E : Environment) (y : Step) → (y.code ≡ 0 → Known q Plus E) → Known q (known (0 == y.code)) E
second_known q E y f = by (0 == y.code) refl
  where
    by : (b : Bool) → (0 == y.code) ≡ b → Known q (known b) E
    by true e = f (sym (eqb-true 0 y.code e))
    by false e = idle_known q E

pub step_known : StepsAreKnown
step_known Nothing E x is = tt
step_known Pause E x is = tt
step_known (Emit s) E x is = tt
step_known (Exit c) E x is = tt
step_known (Present e p q) E x is =
    ⊎_elim
    (λ h. (
      tt,
      subst (λ v. Known p v E) (sym h.0) (step_known p E x h.1),
      subst (λ v. Known q (opposite v) E) (sym h.0) (idle_known q E),
    ))
    (λ h. (
      tt,
      subst (λ v. Known p v E) (sym h.0) (idle_known p E),
      subst (λ v. Known q (opposite v) E) (sym h.0) (step_known q E x h.1),
    ))
    (chosen_parts (value e E) (step p E) (step q E) x is)
step_known (Suspend e p) E x is =
    let o = leaves_part (λ r. Awake e r) (step p E) x is in
    (tt, step_known p E o.0 o.1)
step_known (Seq p q) E x is =
    let parts = sequence_parts q (step p E) (step q E) x is in (
      tt,
      step_known p E parts.0 parts.1,
      subst (λ g. Known q g E) (sym (step_walk_codes p E parts.0 parts.1 0))
          (second_known q E parts.0 (λ z. let o = parts.2 z in step_known q E o.0 o.1)),
    )
step_known (Loop at p) E x is =
    let o = loop_part (Loop at p) (step p E) x is in
    (tt, step_known p E o.0 o.1)
step_known (Par p q) E x is =
    let o = parallel_parts (step p E) (step q E) x is in
    (tt, step_known p E o.0.0 o.0.1, step_known q E o.1.0 o.1.1)
step_known (Trap p) E x is =
    let o = trap_part (step p E) x is in
    (tt, step_known p E o.0 o.1)
step_known (Local s p) E x is =
    let d = decided p E s in
    let w = known_where d (local_step s (step p (with_status E s d))) x is in
    let o = local_part s (step p (with_status E s d)) x w.1 in
    let same = walk_decides p E s in (
      tt,
      subst IsKnown same w.0,
      subst (λ v. Known p Plus (with_status E s v)) same (step_known p (with_status E s d) o.0 o.1),
    )
step_known (Awake e p) E x is =
    ⊎_elim
    (λ h. (tt, subst (λ v. Known p (opposite v) E) (sym h.0) (idle_known p E)))
    (λ h. let o = leaves_part (λ r. Awake e r) (step p E) x h.1 in
    (tt, subst (λ v. Known p (opposite v) E) (sym h.0) (step_known p E o.0 o.1)))
    (chosen_parts (value e E) _ (leaves (λ r. Awake e r) (step p E)) x is)

-- ---- where nothing that the walk asks for is unknown

chosen_has : (v : Status) (a b : Option Step) → IsKnown v → (v ≡ Plus → HasStep a) → (v ≡ Minus → HasStep b) → HasStep (chosen_step v a b)
chosen_has Plus a b k f g = f refl
chosen_has Minus a b k f g = g refl
chosen_has Unknown a b k f g = absurd k

leaves_has : (f : Term → Term) (o : Option Step) → HasStep o → HasStep (leaves f o)
leaves_has f o h = (leaving f h.0, ap (λ a. leaves f a) h.1)

sequence_has : (q : Term) (a b : Option Step) (y : Step) → a ≡ Some y → (y.code ≡ 0 → HasStep b) → HasStep (sequence_step q a b)
sequence_has q a b y is f = subst (λ o. HasStep (sequence_step q o b)) (sym is) (by (y.code == 0) refl)
  where
    both : (o : Option Step) → HasStep o → HasStep (then_step y o)
    both None h = cc
    both (Some z) h = (_, refl)

    by : (c : Bool) → (y.code == 0) ≡ c → HasStep (cond c (then_step y b) (Some (leaving (λ r. Seq r q) y)))
    by true e = both b (f (eqb-true y.code 0 e))
    by false e = (_, refl)

loop_has : (whole : Term) (a : Option Step) (y : Step) → a ≡ Some y → (y.code ≡ 0 → ⊥) → HasStep (loop_step whole a)
loop_has whole a y is n = subst (λ o. HasStep (loop_step whole o)) (sym is) (by (y.code == 0) refl)
  where
    by : (c : Bool) → (y.code == 0) ≡ c → HasStep (cond c None (Some (leaving (λ r. Seq r whole) y)))
    by true e = absurd (n (eqb-true y.code 0 e))
    by false e = (_, refl)

parallel_has : (a b : Option Step) → HasStep a → HasStep b → HasStep (parallel_step a b)
parallel_has a b h g =
    (_, ap (λ o. parallel_step o b) h.1 ∙ ap (λ o. parallel_step (Some h.0) o) g.1)

trap_has : (a : Option Step) → HasStep a → HasStep (trap_step a)
trap_has a h = (_, ap (λ o. trap_step o) h.1)

local_has : (s : ℕ) (v : Status) (a : Option Step) → IsKnown v → HasStep a → HasStep (where_known v (local_step s a))
local_has s v a k h = (_, where_is v (local_step s a) k ∙ ap (λ o. local_step s o) h.1)

pub known_step : KnownSteps
known_step Nothing E n k = (ended 0, refl)
known_step Pause E n k = (ended 1, refl)
known_step (Emit s) E n k = (_, refl)
known_step (Exit c) E n k = (ended c, refl)
known_step (Present e p q) E n k =
    let parts = append-nil (instant_loops p) (instant_loops q) n in
    chosen_has (value e E) (step p E) (step q E) (known_go p (value e E) E k.1)
    (λ h. known_step p E parts.0 (subst (λ v. Known p v E) h k.1))
    (λ h. known_step q E parts.1 (subst (λ v. Known q (opposite v) E) h k.2))
known_step (Suspend e p) E n k = leaves_has (λ r. Awake e r) (step p E) (known_step p E n k.1)
known_step (Seq p q) E n k =
    let parts = append-nil (instant_loops p) (instant_loops q) n in
    let first = known_step p E parts.0 k.1 in
    sequence_has q (step p E) (step q E) first.0 first.1
    (λ z. known_step q E parts.1
    (subst (λ g. Known q g E) (step_walk_codes p E first.0 first.1 0 ∙ ap known (eq-eqb 0 first.0.code (sym z))) k.2))
known_step (Loop at p) E n k =
    let parts = append-nil (cond (started_codes p 0) (at ∷ []) []) (instant_loops p) n in
    let first = known_step p E parts.1 k.1 in
    loop_has (Loop at p) (step p E) first.0 first.1
    (λ z. both_ways (started_codes p 0) (not_instant (started_codes p 0) at parts.0)
    (subst (λ c. started_codes p c ≡ true) z (step_keeps_static_codes_lem p E first.0 first.1)))
known_step (Par p q) E n k =
    let parts = append-nil (instant_loops p) (instant_loops q) n in
    parallel_has (step p E) (step q E) (known_step p E parts.0 k.1) (known_step q E parts.1 k.2)
known_step (Trap p) E n k = trap_has (step p E) (known_step p E n k.1)
known_step (Local s p) E n k =
    let same = walk_decides p E s in
    let d = decided p E s in
    local_has s d (step p (with_status E s d)) (subst IsKnown (sym same) k.1)
    (known_step p (with_status E s d) n (subst (λ v. Known p Plus (with_status E s v)) (sym same) k.2))
known_step (Awake e p) E n k =
    chosen_has (value e E) _ (leaves (λ r. Awake e r) (step p E)) (unopposed (value e E) (known_go p _ E k.1))
    (λ h. (_, refl))
    (λ h. leaves_has (λ r. Awake e r) (step p E) (known_step p E n (subst (λ v. Known p (opposite v) E) h k.1)))
  where
    unopposed : (v : Status) → IsKnown (opposite v) → IsKnown v
    unopposed Plus k = tt
    unopposed Minus k = tt
    unopposed Unknown k = absurd k
