-- Inner: traps that are numbered from the outermost.
use Rattle.std.specs.Prelude.{◌≡◌, ℕ, [], ◌∷◌, length, ⊤}
use Rattle.est_expand.specs.Scopes.{NameScope}

-- each trap has the number of those around it
abbrev pub Numbered : NameScope → Type 0
Numbered [] = ⊤
Numbered (trap ∷ traps) = (trap.1.signal ≡ length traps) × Numbered traps

pub record IsCounted (traps : NameScope) (count : ℕ) : Type 0 where
  pub all : count ≡ length traps
  pub numbered : Numbered traps
