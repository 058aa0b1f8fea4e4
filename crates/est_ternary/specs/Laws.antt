-- Inner: the laws that tie the three-valued walk of a term to its potentials, its step and its reaction.
use Rattle.std.specs.Prelude.{◌≡◌, ◌↔◌, ℕ, Bool, true, false, ◌==◌, List, Some}
use Rattle.est_kernel.specs.Terms.{Term}
use Rattle.est_kernel.specs.Statuses.{Status, Plus, Minus, Unknown, Environment, known}
use Rattle.est_kernel.specs.Potentials.{Must, Can, May, Potential, Potentials, idle, potential}
use Rattle.est_kernel.specs.Steps.{Step, step}
use Rattle.est_kernel.specs.StaticCodes.{NoInstantLoop}
use Rattle.est_kernel.specs.Reactions.{settle}
use Rattle.est_kernel.specs.Laws.{IsBelow, KnowsMore}
use Rattle.est_ternary.specs.TriWalks.{Tri, tri}
use Rattle.est_ternary.specs.Settled.{solved, EachOnce, EachMeets}
use Rattle.est_ternary.specs.KnownPlaces.{IsKnown, Known}

-- a status is surely present; it may be present
abbrev pub sure : Status → Bool
sure Plus = true
sure Minus = false
sure Unknown = false

abbrev pub possible : Status → Bool
possible Plus = true
possible Minus = false
possible Unknown = true

-- the signals and codes of a walk whose statuses pass a test
abbrev pub rail : (Status → Bool) → Tri → Potential
rail f a = record { signals = λ t. f (a.signals t); codes = λ k. f (a.codes k) }

-- what is surely done by a term that runs with this status: what it must do, where it surely runs
abbrev pub low : Status → Potentials → Potential
low Plus P = P Must
low Minus P = idle
low Unknown P = idle

-- what is possibly done: what it can do where it surely runs, what it may do where that is unknown
abbrev pub high : Status → Potentials → Potential
high Plus P = P Can
high Minus P = idle
high Unknown P = P May

-- a walk tells potentials
pub record Tells (g : Status) (a : Tri) (P : Potentials) : Type 0 where
  pub sure : rail sure a ≡ low g P
  pub possible : rail possible a ≡ high g P

-- The walk of a term tells its potentials.
abbrev pub WalksTellPotentials : Type 0
WalksTellPotentials = (p : Term) (g : Status) (E : Environment) → Tells g (tri p g E) (potential p E)

-- one walk knows what another knows, and maybe more
pub record Below (a b : Tri) : Type 0 where
  pub signals : (t : ℕ) → IsBelow (a.signals t) (b.signals t)
  pub codes : (k : ℕ) → IsBelow (a.codes k) (b.codes k)

-- The more is known of whether a term runs and of the signals, the more is known of its walk.
abbrev pub WalksAreMonotone : Type 0
WalksAreMonotone =
    (p : Term) (g h : Status) (E F : Environment) → IsBelow g h → KnowsMore E F → Below (tri p g E) (tri p h F)

-- Outgoing signals, no two alike, have the statuses that the walk in their environment gives them.
abbrev pub SolvedSignalsAreEmitted : Type 0
SolvedSignalsAreEmitted =
    (os : List ℕ) (r : Term) (E : Environment) → EachOnce os
    → EachMeets (λ o. solved os r E o ≡ (tri r Plus (solved os r E)).signals o) os

-- That environment knows no more than another one that knows what is known at first, and of the outgoing signals what
-- the walk in it tells.
abbrev pub SolvedIsLeast : Type 0
SolvedIsLeast =
    (os : List ℕ) (r : Term) (E F : Environment) → EachOnce os → KnowsMore E F
    → EachMeets (λ o. IsBelow ((tri r Plus F).signals o) (F o)) os → KnowsMore (solved os r E) F

-- The outgoing signals are settled exactly where each of them is known in that environment, and with just these
-- statuses.
abbrev pub SettledIsSolved : Type 0
SettledIsSolved =
    (os : List ℕ) (r : Term) (E F : Environment) → EachOnce os
    → (settle os r E ≡ Some F) ↔ (EachMeets (λ o. IsKnown (solved os r E o)) os × (solved os r E ≡ F))

-- A term has a step where its walk asks for nothing that is unknown, and only there.
abbrev pub StepsAreKnown : Type 0
StepsAreKnown = (p : Term) (E : Environment) (x : Step) → step p E ≡ Some x → Known p Plus E

abbrev pub KnownSteps : Type 0
KnownSteps = (p : Term) (E : Environment) → NoInstantLoop p → Known p Plus E → (x : Step) × (step p E ≡ Some x)

-- The step emits and completes as the walk says.
abbrev pub StepIsTheWalk : Type 0
StepIsTheWalk =
    (p : Term) (E : Environment) (x : Step) → step p E ≡ Some x
    → ((t : ℕ) → (tri p Plus E).signals t ≡ known (x.emitted t))
    × ((k : ℕ) → (tri p Plus E).codes k ≡ known (k == x.code))
