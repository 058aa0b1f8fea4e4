-- To believe: the status that the program ends with, and the outcome that a fault or the end of a writing is.
use Rattle.std.specs.Prelude.{ℕ, Option, Some, None}
use Rattle.base_types.specs.declared.files.reading.FileFault as unread
use Rattle.base_types.specs.declared.files.reading.FileFault.TheVariants as reading
use Rattle.base_types.specs.declared.stop.Stop.{Stop}
use Rattle.base_types.specs.declared.stop.Stop.TheVariants as stops
use Rattle.cec_compile.specs.declared.refusal.Limit.TheVariants as limits
use Rattle.cec_compile.specs.declared.refusal.Refusal as refusals
use Rattle.cec_compile.specs.declared.refusal.Refusal.TheVariants as refusing
use Rattle.cec_cycles.specs.declared.findings.Stuck.{Stuck}
use Rattle.cec_opt_faults.specs.declared.unmade.Unmade.{Unmade}
use Rattle.cec_opt_faults.specs.declared.unmade.Unmade.TheVariants.{NoNet, NoText}
use Rattle.blif_read.specs.declared.fault.BlifFault.{BlifFault}
use Rattle.cec_text_io.specs.declared.writing.Written.{Written}
use Rattle.cec_text_io.specs.declared.writing.Written.TheVariants as ends
use Rattle.cec_opt_commands.specs.declared.outcome.OptOutcome.{OptOutcome}
use Rattle.cec_opt_commands.specs.declared.outcome.OptOutcome.TheVariants.{Done, Usage, FileFault, BadText, TooLong}
use Rattle.cec_opt_commands.specs.declared.outcome.OptOutcome.TheVariants.{BadComponent, BadModule}
use Rattle.cec_opt_commands.specs.declared.outcome.OptOutcome.TheVariants.{Refused, NotConstructive, Undecided}
use Rattle.cec_opt_commands.specs.declared.outcome.OptOutcome.TheVariants.{TooManyNets, WriteFault}
use Rattle.cec_opt_commands.specs.declared.outcome.OptOutcome.TheVariants.{NoMemory}

-- of a source that does not compile: that of `cec`
abbrev pub refusal_status : refusals.Refusal → ℕ
refusal_status (refusing.Static fault) = 4
refusal_status (refusing.Cyclic cycle) = 5
refusal_status (refusing.Limit limit) = 8
refusal_status refusing.NoMemory = 10

abbrev pub status_of : OptOutcome → ℕ
status_of Done = 0
status_of Usage = 2
status_of FileFault = 3
status_of (BadText fault) = 7
status_of (BadComponent fault) = 14
status_of (BadModule fault) = 14
status_of TooLong = 8
status_of (Refused refusal) = refusal_status refusal
status_of (NotConstructive stuck) = 12
status_of (Undecided cycle) = 21
status_of (TooManyNets cycle) = 8
status_of WriteFault = 9
status_of NoMemory = 10

-- how the writing of a text, or of a trace, ended; after every other outcome none was to be written
abbrev pub written_of : OptOutcome → Option Written
written_of Done = Some ends.Done
written_of (NotConstructive stuck) = Some ends.Done
written_of WriteFault = Some ends.WriteFault
written_of NoMemory = Some ends.NoMemory
written_of others = None

abbrev pub written_outcome : Written → OptOutcome
written_outcome ends.Done = Done
written_outcome ends.WriteFault = WriteFault
written_outcome ends.NoMemory = NoMemory

-- of a program that is not constructive, whose trace was to be written
abbrev pub stuck_outcome : Stuck → Written → OptOutcome
stuck_outcome stuck ends.Done = NotConstructive stuck
stuck_outcome stuck ends.WriteFault = WriteFault
stuck_outcome stuck ends.NoMemory = NoMemory

abbrev pub stop_outcome : Stop BlifFault → OptOutcome
stop_outcome (stops.Fault fault) = BadText fault
stop_outcome stops.NoMemory = NoMemory

-- of a text that was to be written as embedded C, or as Verilog with a reset
abbrev pub unmade_outcome : {F : Type 0} → (F → OptOutcome) → Stop (Unmade BlifFault F) → OptOutcome
unmade_outcome outcome_of (stops.Fault (NoNet fault)) = BadText fault
unmade_outcome outcome_of (stops.Fault (NoText fault)) = outcome_of fault
unmade_outcome outcome_of stops.NoMemory = NoMemory

abbrev pub unread_outcome : unread.FileFault → OptOutcome
unread_outcome reading.Failed = FileFault
unread_outcome reading.TooLong = TooLong
unread_outcome reading.NoMemory = NoMemory

abbrev pub refusal_outcome : refusals.Refusal → OptOutcome
refusal_outcome refusing.NoMemory = NoMemory
refusal_outcome others = Refused others

-- of a file with a source
abbrev pub source_unread_outcome : unread.FileFault → OptOutcome
source_unread_outcome reading.Failed = FileFault
source_unread_outcome reading.TooLong = Refused (refusing.Limit limits.Source)
source_unread_outcome reading.NoMemory = NoMemory
