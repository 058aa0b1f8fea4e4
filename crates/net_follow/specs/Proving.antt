-- Inner: what a prover assumes, and what follows from it.
use Rattle.std.specs.Prelude.{◌≡◌, ◌⊎◌, ℕ, Bool, true, List, [], ◌∷◌, ◌++◌}
use Rattle.sat_kernel.specs.Clauses.{IsModel}
use Rattle.net_follow.specs.declared.literals.Side.{Side}
use Rattle.net_follow.specs.declared.literals.Equation.{Equation}
use Rattle.net_follow.specs.declared.proving.Prover.{Prover}
use Rattle.net_follow.specs.Literals.{IsSteady, Meets, MeetsAll}
use Rattle.net_follow.specs.Coding.{valuation}

-- these values meet what is assumed
pub record Models (V : Bool → Side → ℕ → Bool) (p : Prover) : Type 0 where
  pub steady : IsSteady V
  pub meets : IsModel (valuation V) p.kernel.assumed

-- values that meet what was assumed, and the premise, meet what is assumed now
pub record KeepsProof (Given : (Bool → Side → ℕ → Bool) → Type 0) (old new : Prover) : Type 0 where
  pub stays : (V : Bool → Side → ℕ → Bool) → Given V → Models V old → Models V new

-- where it is shown, values that meet what was assumed meet what is assumed now, and the claim
pub record Shown (Claim : (Bool → Side → ℕ → Bool) → Type 0) (old new : Prover) (shown : Bool) : Type 0 where
  pub stays : shown ≡ true → (V : Bool → Side → ℕ → Bool) → Models V old → Models V new
  pub claims : shown ≡ true → (V : Bool → Side → ℕ → Bool) → Models V old → Claim V

-- the prover assumes no more than these equations
pub record Begins (assumed : List Equation) (p : Prover) : Type 0 where
  pub models : (V : Bool → Side → ℕ → Bool) → IsSteady V → MeetsAll V assumed → Models V p

-- the place of a claim is noted, or it is shown
pub record Noted (claim : Equation) (place : ℕ) (before after : List ℕ) (old new : Prover) : Type 0 where
  pub noted : (after ≡ before ++ place ∷ []) ⊎ ((after ≡ before) × Shown (λ V. Meets V claim) old new true)

-- values that meet what is assumed meet the claims
pub record Entails (assumed claims : List Equation) : Type 0 where
  pub entails : (V : Bool → Side → ℕ → Bool) → IsSteady V → MeetsAll V assumed → MeetsAll V claims
