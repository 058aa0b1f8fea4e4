-- To believe: why no text is made of a source, or of a BLIF text.
use Rattle.std.specs.Prelude.{◌≢◌, ℕ, List, Option}
use Rattle.cec_compile.specs.declared.refusal.Refusal.TheVariants as refusals
use Rattle.cec_cycles.specs.Constructive.{IsRefusedConstructive}
use Rattle.cec_cycles.specs.declared.findings.CycleRefusal.{CycleRefusal}
use Rattle.cec_cycles.specs.declared.findings.CycleRefusal.TheVariants as causes
use Rattle.cec_opt_faults.specs.declared.unmade.Unmade.{Unmade}
use Rattle.cec_opt_faults.specs.declared.unmade.Unmade.TheVariants.{NoNet, NoText}

-- there is no netlist, for such a cause; or there is one, and it has no text, for such a fault
abbrev pub IsUnmade : {C F : Type 0} → (C → Type 0) → (F → Type 0) → Unmade C F → Type 0
IsUnmade IsCause IsFault (NoNet cause) = IsCause cause
IsUnmade IsCause IsFault (NoText fault) = IsFault fault

-- why a source has no netlist; running out of memory is no cause
abbrev pub IsSourceCause : (source : List ℕ) → (main : Option (List ℕ)) → CycleRefusal → Type 0
IsSourceCause source main refusal =
    (refusal ≢ causes.Source refusals.NoMemory) × IsRefusedConstructive source main refusal
