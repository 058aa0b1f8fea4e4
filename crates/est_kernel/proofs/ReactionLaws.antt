-- A term whose step is the same under every status of the outputs reacts with that step: each output is
-- decided as the step emits it. So does every term that tests no output and no local signal.
use Rattle.std.proofs.Common.{◌≡◌, ℕ, zero, suc, ◌+◌, ◌<◌, ◌≤◌, Bool, true, false, not, ◌&&◌, ◌==◌, cond, List, [], ◌∷◌, Option, Some, filter, refl, ap, ◌∙◌}
use Rattle.std.proofs.Common.{arith}
use Rattle.std.specs.List.{range_with_len}
use Rattle.std.proofs.lemmas.Bool.{ne_eqb, cond-false, cond_both}
use Rattle.base_facts.proofs.Tests.{and-true}
use Rattle.est_kernel.specs.Terms.{Term}
use Rattle.est_kernel.specs.Statuses.{Status, Plus, Minus, Unknown, Environment, with_status, known, environment_of}
use Rattle.est_kernel.specs.Potentials.{Must, Can, potential, decided}
use Rattle.est_kernel.specs.Steps.{Step, step, where_known}
use Rattle.est_kernel.specs.Plain.{Interface}
use Rattle.est_kernel.specs.Reactions.{bound, settle, open_signals, is_given, react, step_in, reaction_of}
use Rattle.est_kernel.proofs.StepLaws.{step_is_what_must_be_done_lem}

-- none of the signals is this one
abbrev pub NotAmong : ℕ → List ℕ → Type 0
NotAmong s [] = Unit {0}
NotAmong s (o ∷ os) = (s ≡ o → ⊥) × NotAmong s os

-- the signals are at least n, and differ from one another
abbrev pub AreOutputs : ℕ → List ℕ → Type 0
AreOutputs n [] = Unit {0}
AreOutputs n (o ∷ os) = (n ≤ o) × NotAmong o os × AreOutputs n os

above_not_among : (s a k : ℕ) → s < a → NotAmong s (range_with_len a k)
above_not_among s a zero h = tt
above_not_among s a (suc k) h = (λ e. omega arith, above_not_among s (a + 1) k (omega arith))

pub ranges_are_outputs : (n a k : ℕ) → n ≤ a → AreOutputs n (range_with_len a k)
ranges_are_outputs n a zero h = tt
ranges_are_outputs n a (suc k) h = (h, above_not_among a (a + 1) k (omega arith), ranges_are_outputs n (a + 1) k (omega arith))

not_among_kept : (keep : ℕ → Bool) (s : ℕ) (os : List ℕ) → NotAmong s os → NotAmong s (filter keep os)
not_among_kept keep s [] h = tt
not_among_kept keep s (o ∷ os) h =
    cond_both (keep o) (o ∷ filter keep os) (filter keep os) (λ l. NotAmong s l)
    (λ e. (h.0, not_among_kept keep s os h.1))
    (λ e. not_among_kept keep s os h.1)

kept_are_outputs : (keep : ℕ → Bool) (n : ℕ) (os : List ℕ) → AreOutputs n os → AreOutputs n (filter keep os)
kept_are_outputs keep n [] h = tt
kept_are_outputs keep n (o ∷ os) h =
    cond_both (keep o) (o ∷ filter keep os) (filter keep os) (λ l. AreOutputs n l)
    (λ e. (h.0, not_among_kept keep o os h.1, kept_are_outputs keep n os h.2))
    (λ e. kept_are_outputs keep n os h.2)

-- a signal other than the hidden one
seen : (a b : Bool) (t o : ℕ) → a ≡ b → (t ≡ o → ⊥) → (a && not (t == o)) ≡ b
seen a b t o e n = ap (λ c. a && not c) (ne_eqb t o n) ∙ and-true a ∙ e

status_known : (m c b : Bool) → m ≡ b → c ≡ b → cond m Plus (cond c Unknown Minus) ≡ known b
status_known true c true e f = refl
status_known true c false e f = cc
status_known false true true e f = cc
status_known false true false e f = cc
status_known false false true e f = cc
status_known false false false e f = refl

where_known-known : {A : Type 0} (b : Bool) (a : Option A) → where_known (known b) a ≡ a
where_known-known true a = refl
where_known-known false a = refl

-- the environments that know the inputs below n as E does
pub record SameBelow (n : ℕ) (E F : Environment) : Type 0 where
  pub at : (s : ℕ) → s < n → F s ≡ E s

same_with_status : {n : ℕ} {E F : Environment} (o : ℕ) (v : Status) → n ≤ o → SameBelow n E F → SameBelow n E (with_status F o v)
same_with_status {n} {E} {F} o v h same =
    record { at = λ s lt. cond-false (s == o) v (F s) (ne_eqb s o (λ e. omega arith)) ∙ same.at s lt }

module _ (n : ℕ) (E : Environment) (r : Term) (x : Step) (steps : (F : Environment) → SameBelow n E F → step r F ≡ Some x) where
  bound_must : (os : List ℕ) → AreOutputs n os → (F : Environment) → SameBelow n E F → (t : ℕ) → NotAmong t os →
      (potential (bound os r) F Must).signals t ≡ x.emitted t
  bound_must [] h F same t m = (step_is_what_must_be_done_lem r F x (steps F same)).0.signals t
  bound_must (o ∷ os) h F same t m =
      let v = decided (bound os r) F o in
      seen _ _ t o (bound_must os h.2 (with_status F o v) (same_with_status o v h.0 same) t m.1) m.0

  bound_can : (os : List ℕ) → AreOutputs n os → (F : Environment) → SameBelow n E F → (t : ℕ) → NotAmong t os →
      (potential (bound os r) F Can).signals t ≡ x.emitted t
  bound_can [] h F same t m = (step_is_what_must_be_done_lem r F x (steps F same)).1.signals t
  bound_can (o ∷ os) h F same t m =
      let v = decided (bound os r) F o in
      seen _ _ t o (bound_can os h.2 (with_status F o v) (same_with_status o v h.0 same) t m.1) m.0

  decided_known : (o : ℕ) (os : List ℕ) → AreOutputs n (o ∷ os) → (F : Environment) → SameBelow n E F → decided (bound os r) F o ≡ known (x.emitted o)
  decided_known o os h F same =
      let unknown = same_with_status o Unknown h.0 same in
      status_known _ _ (x.emitted o)
      (bound_must os h.2 (with_status F o Unknown) unknown o h.1)
      (bound_can os h.2 (with_status F o Unknown) unknown o h.1)

  settles : (outs : List ℕ) → AreOutputs n outs → (F : Environment) → SameBelow n E F → (G : Environment) × (settle outs r F ≡ Some G) × SameBelow n E G
  settles [] h F same = (F, refl, same)
  settles (o ∷ os) h F same =
      let v = decided (bound os r) F o in
      let rest = settles os h.2 (with_status F o v) (same_with_status o v h.0 same) in
      let whole : where_known v (settle os r (with_status F o v)) ≡ Some rest.0 =
      ap (λ w. where_known w (settle os r (with_status F o v))) (decided_known o os h F same)
      ∙ where_known-known (x.emitted o) (settle os r (with_status F o v))
      ∙ rest.1 in
      (rest.0, whole, rest.2)

-- The reaction of a term whose step is the same whatever is known of the outgoing signals, which have
-- numbers of their own, at least the number of inputs.
pub react_of_step : (interface : Interface) (r : Term) (event : List Bool) (x : Step) → AreOutputs interface.inputs interface.outgoing →
    ((F : Environment) → SameBelow interface.inputs (environment_of interface.inputs event) F → step r F ≡ Some x) →
    react interface r event ≡ reaction_of interface event (Some x)
react_of_step interface r event x outgoing steps =
    let E = environment_of interface.inputs event in
    let outs = open_signals event interface.outgoing in
    let s = settles interface.inputs E r x steps outs (kept_are_outputs (λ o. not (is_given event o)) interface.inputs interface.outgoing outgoing) E
    (record { at = λ o h. refl }) in
    ap (λ o. reaction_of interface event (step_in r o)) s.1 ∙ ap (λ o. reaction_of interface event o) (steps s.0 s.2)
