-- Contract: what an answer without a program says.
use Rattle.std.specs.Prelude.{◌≡◌}
use Rattle.est_dismantle.specs.declared.refusal.DismantleFault.{DismantleFault}
use Rattle.est_dismantle.specs.declared.refusal.DismantleFault.TheVariants as faults
use Rattle.est_dismantle.specs.Expansions.{Expansion, BadCount, TooLarge, TooHigh, TooManyTraps}

-- the expansion calls for this fault
abbrev pub FaultHasCause : Expansion → DismantleFault → Type 0
FaultHasCause expansion (faults.BadCount place) = expansion ≡ BadCount place
FaultHasCause expansion faults.TooLarge = expansion ≡ TooLarge
FaultHasCause expansion faults.TooHigh = expansion ≡ TooHigh
FaultHasCause expansion faults.TooManyTraps = expansion ≡ TooManyTraps
