-- Inner: the faults of names that the code finds.
use Rattle.std.specs.Prelude.{◌≡◌, Option, Some, None}
use Rattle.csub_guard.specs.Names.{NameFault, Twice, Undeclared, Again, Unset}
use Rattle.csub_guard_read.specs.declared.faults.NameFault.{NameFault as CodeFault}
use Rattle.csub_guard_read.specs.declared.faults.NameFault.TheVariants as found
use Rattle.csub_guard_read.specs.declared.refusal.GuardedFault.{GuardedFault}
use Rattle.csub_guard_read.specs.declared.refusal.GuardedFault.TheVariants as faults

-- a fault that code found
abbrev pub fault_told : Option CodeFault → Option NameFault
fault_told None = None
fault_told (Some (found.Twice name)) = Some (Twice name.now)
fault_told (Some (found.Undeclared name)) = Some (Undeclared name.now)
fault_told (Some (found.Again name)) = Some (Again name.now)
fault_told (Some (found.Unset name)) = Some (Unset name.now)

-- a fault of a text that is one of names
abbrev pub SaysFault : Option NameFault → GuardedFault → Type 0
SaysFault first (faults.Twice name) = first ≡ Some (Twice name)
SaysFault first (faults.Undeclared name) = first ≡ Some (Undeclared name)
SaysFault first (faults.Again name) = first ≡ Some (Again name)
SaysFault first (faults.Unset name) = first ≡ Some (Unset name)
SaysFault first others = ⊥
