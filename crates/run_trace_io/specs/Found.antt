-- Inner: the one signal that is found present among some.
use Rattle.std.specs.Prelude.{◌≡◌, ℕ, ◌<◌, Bool, true, false, ◌==◌, if◌then◌else◌, List, slice_index, Option, Some}
use Rattle.std.specs.Prelude.{None, Contains}
use Rattle.base_types.specs.declared.indices.SigId.{SigId}
use Rattle.base_types.specs.Relations.{IsPresent}

-- after one signal more; None where two that differ are present
abbrev pub found_after : Option SigId → SigId → Bool → Option (Option SigId)
found_after found signal false = Some found
found_after None signal true = Some (Some signal)
found_after (Some other) signal true = if other.0 == signal.0 then Some (Some signal) else None

-- of the first signals of a list only the found one is present
abbrev pub IsFound : List Bool → List ℕ → ℕ → Option SigId → Type 0
IsFound event signals count None = (j : ℕ) → j < count → IsPresent event (slice_index signals j) → ⊥
IsFound event signals count (Some found) =
    Contains signals found.0 × IsPresent event found.0 × ((j : ℕ) → j < count
    → IsPresent event (slice_index signals j) → slice_index signals j ≡ found.0)
