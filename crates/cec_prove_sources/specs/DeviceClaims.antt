-- To believe: what is claimed of an output of a device, and what refutes it.
use Rattle.std.specs.Prelude.{◌≡◌, ℕ, Bool, true, false, not, List, map, Option, Some, None, IsTrue, slice_index_or}
use Rattle.std.specs.List.{AllByRecursion, list_all}
use Rattle.base_types.specs.Items.{Item}
use Rattle.net_never.specs.Reached.{items_of, last_or}
use Rattle.cec_prove_sources.specs.Claims.{claimed}
use Rattle.cec_prove_sources.specs.declared.questions.Claim.{Claim}
use Rattle.cec_prove_sources.specs.Devices.{Device, FitsDevice}

-- whether the output with this place is true in a row
abbrev pub is_true_at : ℕ → List Bool → Bool
is_true_at place row = slice_index_or row place false

-- whether the output that is assumed is true in a row, if one is assumed
abbrev pub row_meets : Option ℕ → List Bool → Bool
row_meets None row = true
row_meets (Some place) row = is_true_at place row

-- Over every list of items whose events fit, the device shows rows. Where the output that is assumed is true in all of
-- them, the output of the claim is as claimed in each.
abbrev pub DeviceHolds : Device → Claim → (place : ℕ) → (assumed : Option ℕ) → Type 0
DeviceHolds d claim place assumed = (items : List Item) → FitsDevice d items
    → (rows : List (List Bool)) × d.Shows items rows
    × (IsTrue (list_all (row_meets assumed) rows) → AllByRecursion (λ row. is_true_at place row ≡ claimed claim) rows)

-- These events fit, the output that is assumed is true in each row that is shown, and in the last one the output of the
-- claim is not as claimed.
pub record BreaksDevice (d : Device) (claim : Claim) (place : ℕ) (assumed : Option ℕ) (events : List (List Bool)) :
    Type 0 where
  pub items_fit : FitsDevice d (items_of events)
  pub rows : List (List Bool)
  pub shows : d.Shows (items_of events) rows
  pub assumes : IsTrue (list_all (row_meets assumed) rows)
  pub breaks : last_or (claimed claim) (map (is_true_at place) rows) ≡ not (claimed claim)
