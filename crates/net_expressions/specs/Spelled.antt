-- Inner: tokens that are written for one tree alone, and what that tree means.
use Rattle.std.specs.Prelude.{◌≡◌, ℕ, List}

pub record IsSpelled {K W M : Type 0} (L : ℕ → W → List K → Type 0) (room : ℕ) (meaning : W → M) (tokens : List K)
    (meant : M) : Type 0 where
  pub written : W
  pub spelled : L room written tokens
  pub means : meaning written ≡ meant
  pub only : (other : W) → L room other tokens → other ≡ written
