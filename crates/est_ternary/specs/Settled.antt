-- Inner: the environment in which the outgoing signals are decided one within another, each by the walk of the term
-- with the later ones bound round it.
use Rattle.std.specs.Prelude.{◌≡◌, ℕ, List, [], ◌∷◌, ⊤}
use Rattle.est_kernel.specs.Terms.{Term}
use Rattle.est_kernel.specs.Statuses.{Plus, Environment, with_status}
use Rattle.est_kernel.specs.Reactions.{bound}
use Rattle.est_ternary.specs.TriWalks.{tri_decided}

-- the outgoing signals in order, each with the status that the walk gives it; it may stay unknown
abbrev pub solved : List ℕ → Term → Environment → Environment
solved [] r E = E
solved (o ∷ os) r E = solved os r (with_status E o (tri_decided (bound os r) Plus E o))

-- a signal is none of a list
abbrev pub IsNoneOf : ℕ → List ℕ → Type 0
IsNoneOf s [] = ⊤
IsNoneOf s (o ∷ os) = (s ≡ o → ⊥) × IsNoneOf s os

-- no signal stands twice in a list
abbrev pub EachOnce : List ℕ → Type 0
EachOnce [] = ⊤
EachOnce (o ∷ os) = IsNoneOf o os × EachOnce os

-- each signal of a list meets P
abbrev pub EachMeets : (ℕ → Type 0) → List ℕ → Type 0
EachMeets P [] = ⊤
EachMeets P (o ∷ os) = P o × EachMeets P os
