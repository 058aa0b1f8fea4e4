-- To believe: the status that the program ends with, and the outcome that a fault or the end of a writing is.
use Rattle.std.specs.Prelude.{ℕ, Bool, true, false, Option, Some, None}
use Rattle.base_types.specs.declared.files.reading.FileFault as unread
use Rattle.base_types.specs.declared.files.reading.FileFault.TheVariants as reading
use Rattle.cec_compile.specs.declared.refusal.Limit.TheVariants as limits
use Rattle.cec_compile.specs.declared.refusal.Refusal as refusals
use Rattle.cec_compile.specs.declared.refusal.Refusal.TheVariants as refusing
use Rattle.cec_text_io.specs.declared.writing.Written.{Written}
use Rattle.cec_text_io.specs.declared.writing.Written.TheVariants as ends
use Rattle.cec_prove_commands.specs.declared.outcome.InputFault.{InputFault}
use Rattle.cec_prove_commands.specs.declared.outcome.InputFault.TheVariants.{Unread, Refused, NotConstructive}
use Rattle.cec_prove_commands.specs.declared.outcome.InputFault.TheVariants.{UndecidedCycle, TooManyNets, BadText}
use Rattle.cec_prove_commands.specs.declared.outcome.InputFault.TheVariants.{TooLong}
use Rattle.cec_prove_commands.specs.declared.outcome.ProveOutcome.{ProveOutcome}
use Rattle.cec_prove_commands.specs.declared.outcome.ProveOutcome.TheVariants.{Told, Proved, Refuted, Surveyed}
use Rattle.cec_prove_commands.specs.declared.outcome.ProveOutcome.TheVariants.{Covered, PartlyCovered}
use Rattle.cec_prove_commands.specs.declared.outcome.ProveOutcome.TheVariants.{PartlySurveyed, Undecided, NoSignal}
use Rattle.cec_prove_commands.specs.declared.outcome.ProveOutcome.TheVariants.{NoAssumed, OtherGiven, OtherOutgoing}
use Rattle.cec_prove_commands.specs.declared.outcome.ProveOutcome.TheVariants.{OtherRelations, Usage, BadInput}
use Rattle.cec_prove_commands.specs.declared.outcome.ProveOutcome.TheVariants.{WriteFault, NoMemory}
use Rattle.cec_words.specs.declared.common.Which.{Which}

-- of a source that does not compile: that of `cec`
abbrev pub refusal_status : refusals.Refusal → ℕ
refusal_status (refusing.Static fault) = 4
refusal_status (refusing.Cyclic cycle) = 5
refusal_status (refusing.Limit limit) = 8
refusal_status refusing.NoMemory = 10

-- after a fault of a file, or of the source or the text in it
abbrev pub fault_status : InputFault → ℕ
fault_status Unread = 3
fault_status (Refused refusal) = refusal_status refusal
fault_status (NotConstructive stuck) = 12
fault_status (UndecidedCycle cycle) = 21
fault_status (TooManyNets cycle) = 8
fault_status (BadText fault) = 7
fault_status TooLong = 8

abbrev pub status_of : ProveOutcome → ℕ
status_of Told = 0
status_of Proved = 0
status_of Surveyed = 0
status_of Covered = 0
status_of Refuted = 20
status_of PartlySurveyed = 21
status_of PartlyCovered = 21
status_of (Undecided depth) = 21
status_of NoSignal = 22
status_of NoAssumed = 22
status_of OtherGiven = 23
status_of OtherOutgoing = 23
status_of OtherRelations = 23
status_of Usage = 2
status_of (BadInput which fault) = fault_status fault
status_of WriteFault = 9
status_of NoMemory = 10

-- how the writing of what the program writes about itself, of a trace, a survey or a covering ended; after every other
-- outcome nothing was to be written
abbrev pub written_of : ProveOutcome → Option Written
written_of Told = Some ends.Done
written_of Refuted = Some ends.Done
written_of Surveyed = Some ends.Done
written_of PartlySurveyed = Some ends.Done
written_of Covered = Some ends.Done
written_of PartlyCovered = Some ends.Done
written_of (BadInput which (NotConstructive stuck)) = Some ends.Done
written_of WriteFault = Some ends.WriteFault
written_of NoMemory = Some ends.NoMemory
written_of others = None

-- the outcome of a writing that ended so, where it is this one when all is written
abbrev pub written_outcome : ProveOutcome → Written → ProveOutcome
written_outcome done ends.Done = done
written_outcome done ends.WriteFault = WriteFault
written_outcome done ends.NoMemory = NoMemory

abbrev pub refusal_outcome : Which → refusals.Refusal → ProveOutcome
refusal_outcome which refusing.NoMemory = NoMemory
refusal_outcome which others = BadInput which (Refused others)

-- of a text, or a source, that is too long
abbrev pub long_fault : (of_texts : Bool) → InputFault
long_fault true = TooLong
long_fault false = Refused (refusing.Limit limits.Source)

abbrev pub unread_outcome : Which → (of_texts : Bool) → unread.FileFault → ProveOutcome
unread_outcome which of_texts reading.Failed = BadInput which Unread
unread_outcome which of_texts reading.TooLong = BadInput which (long_fault of_texts)
unread_outcome which of_texts reading.NoMemory = NoMemory
