-- To believe: the status that the program ends with, and the outcome that a refusal or the end of a writing is.
use Rattle.std.specs.Prelude.{ℕ}
use Rattle.cec_text_io.specs.declared.writing.Written.{Written}
use Rattle.cec_text_io.specs.declared.writing.Written.TheVariants as ends
use Rattle.cec_commands.specs.declared.outcome.Outcome.{Outcome}
use Rattle.cec_commands.specs.declared.outcome.Outcome.TheVariants.{Done, Usage, FileFault, Static, Cyclic, Trace}
use Rattle.cec_commands.specs.declared.outcome.Outcome.TheVariants.{BadText}
use Rattle.cec_commands.specs.declared.outcome.Outcome.TheVariants.{Limit, WriteFault, NoMemory, NotConstructive}
use Rattle.cec_compile.specs.declared.refusal.Refusal.{Refusal}
use Rattle.cec_compile.specs.declared.refusal.Refusal.TheVariants as refusals

abbrev pub status_of : Outcome → ℕ
status_of Done = 0
status_of Usage = 2
status_of (FileFault file) = 3
status_of (Static fault) = 4
status_of (Cyclic cycle) = 5
status_of (Trace fault) = 6
status_of (BadText fault) = 7
status_of (Limit quantity) = 8
status_of WriteFault = 9
status_of NoMemory = 10
status_of (NotConstructive wires) = 12

abbrev pub outcome_of : Refusal → Outcome
outcome_of (refusals.Static fault) = Static fault
outcome_of (refusals.Cyclic cycle) = Cyclic cycle
outcome_of (refusals.Limit quantity) = Limit quantity
outcome_of refusals.NoMemory = NoMemory

abbrev pub written_outcome : Written → Outcome
written_outcome ends.Done = Done
written_outcome ends.WriteFault = WriteFault
written_outcome ends.NoMemory = NoMemory
