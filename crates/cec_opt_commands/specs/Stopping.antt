-- Inner: the outcome of a source that has no constructive netlist, no embedded C text, or no Verilog with a reset.
use Rattle.std.specs.Prelude.{◌≡◌, [], Some}
use Rattle.base_types.specs.SinkChanges.{SinkChange}
use Rattle.base_types.specs.Writing.{Appends}
use Rattle.base_types.specs.declared.stop.Stop.{Stop}
use Rattle.base_types.specs.declared.stop.Stop.TheVariants as stops
use Rattle.cec_cycles.specs.declared.findings.CycleRefusal.{CycleRefusal}
use Rattle.cec_cycles.specs.declared.findings.CycleRefusal.TheVariants as causes
use Rattle.cec_cycles.specs.declared.findings.Stuck.{Stuck}
use Rattle.cec_opt_faults.specs.declared.unmade.Unmade.{Unmade}
use Rattle.cec_opt_faults.specs.declared.unmade.Unmade.TheVariants.{NoNet, NoText}
use Rattle.cec_text_io.specs.Writings.{LeavesText}
use Rattle.cec_text_io.specs.declared.writing.Written.{Written}
use Rattle.cec_opt_commands.specs.Statuses.{refusal_outcome, stuck_outcome}
use Rattle.cec_opt_commands.specs.declared.outcome.OptOutcome.{OptOutcome}
use Rattle.cec_opt_commands.specs.declared.outcome.OptOutcome.TheVariants as outcomes

-- the trace was to be written
pub record IsStuckOutcome (stuck : Stuck) (s : SinkChange) (outcome : OptOutcome) : Type 0 where
  pub ended : Written
  pub is : outcome ≡ stuck_outcome stuck ended
  pub leaves : LeavesText (λ written. written ≡ stuck.trace.items) s (Some ended)

-- nothing was written
pub record IsSilentOutcome (expected : OptOutcome) (s : SinkChange) (outcome : OptOutcome) : Type 0 where
  pub is : outcome ≡ expected
  pub silent : Appends s.before s.after s.faults_before s.faults_now []

abbrev pub IsRefusedOutcome : CycleRefusal → SinkChange → OptOutcome → Type 0
IsRefusedOutcome (causes.Source refusal) s outcome = IsSilentOutcome (refusal_outcome refusal) s outcome
IsRefusedOutcome (causes.NotConstructive stuck) s outcome = IsStuckOutcome stuck s outcome
IsRefusedOutcome (causes.Undecided cycle) s outcome = IsSilentOutcome (outcomes.Undecided cycle) s outcome
IsRefusedOutcome (causes.TooManyNets cycle) s outcome = IsSilentOutcome (outcomes.TooManyNets cycle) s outcome

-- the same of one that was to be written as embedded C, or as Verilog with a reset
abbrev pub IsUnmadeOutcome : {F : Type 0} → (F → OptOutcome) → Stop (Unmade CycleRefusal F) → SinkChange → OptOutcome
    → Type 0
IsUnmadeOutcome outcome_of (stops.Fault (NoNet refusal)) s outcome = IsRefusedOutcome refusal s outcome
IsUnmadeOutcome outcome_of (stops.Fault (NoText fault)) s outcome = IsSilentOutcome (outcome_of fault) s outcome
IsUnmadeOutcome outcome_of stops.NoMemory s outcome = IsSilentOutcome outcomes.NoMemory s outcome
