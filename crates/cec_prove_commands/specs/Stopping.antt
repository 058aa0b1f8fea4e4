-- Inner: the outcome of a source that has no answer.
use Rattle.std.specs.Prelude.{◌≡◌, [], Some}
use Rattle.base_types.specs.SinkChanges.{SinkChange}
use Rattle.base_types.specs.Writing.{Appends}
use Rattle.cec_cycles.specs.declared.findings.CycleRefusal.{CycleRefusal}
use Rattle.cec_cycles.specs.declared.findings.CycleRefusal.TheVariants as causes
use Rattle.cec_cycles.specs.declared.findings.Stuck.{Stuck}
use Rattle.cec_text_io.specs.Writings.{LeavesText}
use Rattle.cec_text_io.specs.declared.writing.Written.{Written}
use Rattle.cec_prove_commands.specs.Statuses.{refusal_outcome, written_outcome}
use Rattle.cec_prove_commands.specs.declared.outcome.InputFault.TheVariants as faults
use Rattle.cec_prove_commands.specs.declared.outcome.ProveOutcome.{ProveOutcome}
use Rattle.cec_prove_commands.specs.declared.outcome.ProveOutcome.TheVariants.{BadInput}
use Rattle.cec_words.specs.declared.common.Which.{Which}

-- the trace of a source that is not constructive was to be written
pub record IsStuckOutcome (stuck : Stuck) (done : ProveOutcome) (s : SinkChange) (outcome : ProveOutcome) : Type 0 where
  pub ended : Written
  pub is : outcome ≡ written_outcome done ended
  pub leaves : LeavesText (λ written. written ≡ stuck.trace.items) s (Some ended)

-- nothing was written
pub record IsSilentOutcome (expected : ProveOutcome) (s : SinkChange) (outcome : ProveOutcome) : Type 0 where
  pub is : outcome ≡ expected
  pub silent : Appends s.before s.after s.faults_before s.faults_now []

abbrev pub IsRefusedOutcome : Which → CycleRefusal → SinkChange → ProveOutcome → Type 0
IsRefusedOutcome which (causes.Source refusal) s outcome = IsSilentOutcome (refusal_outcome which refusal) s outcome
IsRefusedOutcome which (causes.NotConstructive stuck) s outcome =
    IsStuckOutcome stuck (BadInput which (faults.NotConstructive stuck)) s outcome
IsRefusedOutcome which (causes.Undecided cycle) s outcome =
    IsSilentOutcome (BadInput which (faults.UndecidedCycle cycle)) s outcome
IsRefusedOutcome which (causes.TooManyNets cycle) s outcome =
    IsSilentOutcome (BadInput which (faults.TooManyNets cycle)) s outcome
