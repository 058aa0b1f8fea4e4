-- Inner: measures in numbers that stop at the greatest u64.
use Rattle.std.specs.Prelude.{◌≡◌, ◌-◌, ◌^◌, min}
use Rattle.est_dismantle.specs.declared.extent.Extent.{Extent}
use Rattle.est_dismantle.specs.Measures.{Measures}

-- each number of the extent is that of the measures as far as it fits
pub record IsCapped (extent : Extent) (m : Measures) : Type 0 where
  pub size : extent.size ≡ min m.size (2 ^ 64 - 1)
  pub height : extent.height ≡ min m.height (2 ^ 64 - 1)
  pub traps : extent.traps ≡ min m.traps (2 ^ 64 - 1)

-- the same, closed, so that a proof does not look at the numbers
unfoldable pub IsExtent : Extent → Measures → Type 0
IsExtent extent m = IsCapped extent m
