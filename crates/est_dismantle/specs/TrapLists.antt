-- Inner: the traps around a statement as a list.
use Rattle.std.specs.Prelude.{ℕ, ◌+◌, ◌≤◌, Bool, true, false, List, [], ◌∷◌, length}
use Rattle.base_types.specs.declared.bounds.TheConstants.Limits.{TRAPS}
use Rattle.est_dismantle.specs.declared.traps.Traps.{Traps as CodeTraps, fold-Traps}
use Rattle.est_dismantle.specs.declared.traps.Traps.TheOpen.{Traps-F}
use Rattle.est_dismantle.specs.Kernels.{Traps}

abbrev pub traps_step : Traps-F (List Bool) → List Bool
traps_step Traps-F.Whole = []
traps_step (Traps-F.Source around) = true ∷ around.now
traps_step (Traps-F.New around) = false ∷ around.now

abbrev pub traps_of : CodeTraps → Traps
traps_of = fold-Traps (List Bool) traps_step

-- so many more traps can be in these
abbrev pub HasRoom : CodeTraps → ℕ → Type 0
HasRoom traps more = length (traps_of traps) + more ≤ TRAPS
