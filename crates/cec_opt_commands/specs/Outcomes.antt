-- To believe: what each outcome of the top call says.
use Rattle.std.specs.Prelude.{◌≡◌, ◌⊎◌, ℕ, ◌<◌, ◌≤◌, ⊤, List, [], length, Option, Result, Ok, Err, Some}
use Rattle.base_types.specs.declared.bounds.TheConstants.Limits.{TEXT_BYTES}
use Rattle.base_types.specs.Items.{Item}
use Rattle.base_types.specs.Reading.{KeepsFaults, Notes}
use Rattle.base_types.specs.SinkChanges.{SinkChange}
use Rattle.base_types.specs.Writing.{Appends}
use Rattle.est_kernel.specs.Plain.{Program}
use Rattle.est_kernel.specs.Reactions.{Answer, run_of}
use Rattle.est_front.specs.Sources.{StandsFor}
use Rattle.net_ir.specs.Netlists.{Netlist}
use Rattle.cec_compile.specs.Meaning.{AreItems}
use Rattle.cec_compile.specs.Refusals.{IsRefused, KeepsGraphLimits}
use Rattle.cec_compile.specs.declared.refusal.Refusal.{Refusal}
use Rattle.cec_compile.specs.declared.refusal.Refusal.TheVariants as refusing
use Rattle.cec_cycles.specs.Constructive.{HasCycle, StandsForStuck}
use Rattle.cec_cycles.specs.declared.findings.Stuck.{Stuck}
use Rattle.cec_opt_embed.specs.Faults.{IsProgramNameFault, IsTextNameFault}
use Rattle.cec_opt_reset.specs.Faults.{IsProgramModuleFault, IsTextModuleNameFault}
use Rattle.cec_opt_texts.specs.Faults.{IsGivenFault}
use Rattle.cec_opt_texts.specs.Optimized.{IsTextNet}
use Rattle.cec_opt_texts.specs.Related.{GivenRelation}
use Rattle.csub_embed.specs.declared.fault.EmbedFault.{EmbedFault}
use Rattle.vlog_reset.specs.declared.fault.ResetFault.{ResetFault}
use Rattle.cec_text_io.specs.Contents.{Content, Holds}
use Rattle.cec_text_io.specs.Writings.{LeavesText, LeavesPieces}
use Rattle.cec_opt_commands.specs.Answers.{IsAnswer, IsSourceAnswer}
use Rattle.cec_opt_commands.specs.HelpTexts.{own_text}
use Rattle.cec_opt_commands.specs.Statuses.{written_of}
use Rattle.cec_opt_commands.specs.Words.{Request, Task, Tell, Do, Make, Write, Embed, Reset, Check}
use Rattle.cec_opt_commands.specs.declared.outcome.OptOutcome.{OptOutcome}
use Rattle.cec_opt_commands.specs.declared.outcome.OptOutcome.TheVariants.{Done, Usage, FileFault, BadText, TooLong}
use Rattle.cec_opt_commands.specs.declared.outcome.OptOutcome.TheVariants.{BadComponent, BadModule}
use Rattle.cec_opt_commands.specs.declared.outcome.OptOutcome.TheVariants.{Refused, NotConstructive, Undecided}
use Rattle.cec_opt_commands.specs.declared.outcome.OptOutcome.TheVariants.{TooManyNets, WriteFault}
use Rattle.cec_opt_commands.specs.declared.outcome.OptOutcome.TheVariants.{NoMemory}

-- ---- causes

-- the text keeps its limit, and its circuit has a netlist
pub record HasNet (text : List ℕ) : Type 0 where
  pub short : length text ≤ TEXT_BYTES
  pub net : Netlist
  pub of_text : IsTextNet text net

-- The text has a netlist, and the task writes it as embedded C. This is the first fault of the name of the component
-- and of the signals. No other task has such a fault.
abbrev pub IsTextComponentFault : Task → List GivenRelation → EmbedFault → List ℕ → Type 0
IsTextComponentFault (Embed component layout) given fault text =
    (length text ≤ TEXT_BYTES) × IsTextNameFault text given component fault
IsTextComponentFault others given fault text = ⊥

-- The text has a netlist, and the task writes it as Verilog with a reset. This is the first fault of the names of the
-- module. No other task has such a fault.
abbrev pub IsTextModuleFault : Task → List GivenRelation → ResetFault → List ℕ → Type 0
IsTextModuleFault (Reset options coding) given fault text =
    (length text ≤ TEXT_BYTES) × IsTextModuleNameFault text given options fault
IsTextModuleFault others given fault text = ⊥

-- what the outcome of a task on a text that was read says of its bytes
abbrev pub SaysOf : Task → (given : List GivenRelation) → OptOutcome → List ℕ → Type 0
SaysOf task given Done text = HasNet text
SaysOf task given (BadText fault) text = (length text ≤ TEXT_BYTES) × IsGivenFault text given fault
SaysOf task given (BadComponent fault) text = IsTextComponentFault task given fault text
SaysOf task given (BadModule fault) text = IsTextModuleFault task given fault text
SaysOf task given TooLong text = TEXT_BYTES < length text
SaysOf task given WriteFault text = HasNet text
SaysOf task given NoMemory text = ⊤
SaysOf task given others text = ⊥

-- The source stands for a program, by its main module, whose graph keeps the limits. Over every list of items that meet
-- its relations its reactions are constructive.
pub record IsConstructible (main : Option (List ℕ)) (source : List ℕ) : Type 0 where
  pub program : Program
  pub stands : StandsFor source main program
  pub limits : KeepsGraphLimits program
  pub constructive : (items : List Item) → AreItems program items
      → (answers : List Answer) × (run_of program items ≡ Some answers)

-- the source stands for a program that is not constructive
abbrev pub IsStuckSource : (main : Option (List ℕ)) → (source : List ℕ) → Type 0
IsStuckSource main source = (stuck : Stuck) × StandsForStuck source main stuck

-- the cause of a refusal; running out of memory is an outcome of its own
abbrev pub IsRefusedFor : (main : Option (List ℕ)) → Refusal → (source : List ℕ) → Type 0
IsRefusedFor main refusing.NoMemory source = ⊥
IsRefusedFor main refusal source = IsRefused source main refusal

-- the same of a source whose dependencies may go round in circles
abbrev pub IsGraphRefusedFor : (main : Option (List ℕ)) → Refusal → (source : List ℕ) → Type 0
IsGraphRefusedFor main (refusing.Cyclic cycle) source = ⊥
IsGraphRefusedFor main others source = IsRefusedFor main others source

-- the same of a source, which has a netlist
abbrev pub IsSourceComponentFault : Task → (main : Option (List ℕ)) → EmbedFault → (source : List ℕ) → Type 0
IsSourceComponentFault (Embed component layout) main fault source = IsProgramNameFault source main component fault
IsSourceComponentFault others main fault source = ⊥

abbrev pub IsSourceModuleFault : Task → (main : Option (List ℕ)) → ResetFault → (source : List ℕ) → Type 0
IsSourceModuleFault (Reset options coding) main fault source =
    IsProgramModuleFault source main coding options fault
IsSourceModuleFault others main fault source = ⊥

-- what the outcome of a task on a source that was read says of its bytes
abbrev pub SourceSays : Task → (main : Option (List ℕ)) → OptOutcome → (source : List ℕ) → Type 0
SourceSays task main Done source = IsConstructible main source
SourceSays task main (BadComponent fault) source = IsSourceComponentFault task main fault source
SourceSays task main (BadModule fault) source = IsSourceModuleFault task main fault source
SourceSays task main (Refused refusal) source = IsGraphRefusedFor main refusal source
SourceSays task main (NotConstructive stuck) source = StandsForStuck source main stuck
SourceSays task main (Undecided cycle) source = HasCycle source main cycle
SourceSays task main (TooManyNets cycle) source = HasCycle source main cycle
SourceSays task main WriteFault source = IsConstructible main source ⊎ IsStuckSource main source
SourceSays task main NoMemory source = ⊤
SourceSays task main others source = ⊥

-- what an outcome says of the file that is read; a file fault says nothing of bytes
abbrev pub AgreesOnFile : Content → (name : List ℕ) → (OptOutcome → List ℕ → Type 0) → OptOutcome → Type 0
AgreesOnFile content name Says FileFault = ⊤
AgreesOnFile content name Says others = Holds content name (Says others)

-- how a command ends that reads no file
abbrev pub IsWriting : OptOutcome → Type 0
IsWriting Done = ⊤
IsWriting WriteFault = ⊤
IsWriting NoMemory = ⊤
IsWriting others = ⊥

-- what an outcome says of the words and of the bytes in the files
abbrev pub IsOptOutcomeOf : Result Request (List ℕ) → Content → OptOutcome → Type 0
IsOptOutcomeOf (Err misuse) content outcome = outcome ≡ Usage
IsOptOutcomeOf (Ok (Tell about)) content outcome = IsWriting outcome
IsOptOutcomeOf (Ok (Do task given name)) content outcome = AgreesOnFile content name (SaysOf task given) outcome
IsOptOutcomeOf (Ok (Make task name main)) content outcome = AgreesOnFile content name (SourceSays task main) outcome

-- ---- the files

-- The count of faults of the files and the name that failed last: a file fault raised the count, and the name is the
-- file's; every other outcome leaves both.
abbrev pub CountsFiles : Result Request (List ℕ) → OptOutcome → (before now : ℕ)
    → (failed_before failed_now : List ℕ) → Type 0
CountsFiles (Ok (Do task given name)) FileFault before now failed_before failed_now = Notes before now name failed_now
CountsFiles (Ok (Make task name main)) FileFault before now failed_before failed_now =
    Notes before now name failed_now
CountsFiles asked others before now failed_before failed_now = KeepsFaults before now failed_before failed_now

-- ---- what `out` gained

-- netlists are written piece by piece; embedded C, Verilog with a reset and counts as a whole
abbrev pub LeavesAnswer : Task → (List ℕ → Type 0) → SinkChange → OptOutcome → Type 0
LeavesAnswer (Write form) IsText s outcome = LeavesPieces IsText s (written_of outcome)
LeavesAnswer (Embed component layout) IsText s outcome = LeavesText IsText s (written_of outcome)
LeavesAnswer (Reset options coding) IsText s outcome = LeavesText IsText s (written_of outcome)
LeavesAnswer Check IsText s outcome = LeavesText IsText s (written_of outcome)

-- what a task writes of the text in a file
abbrev pub IsTextOf : Task → List GivenRelation → (name : List ℕ) → Content → List ℕ → Type 0
IsTextOf task given name content written = Holds content name (λ text. IsAnswer task text given written)

-- what a task writes of a source, where it ends with an outcome: what is asked for, or a trace to an instant that is
-- not constructive
abbrev pub IsSourceTextBy : OptOutcome → Task → (source : List ℕ) → (main : Option (List ℕ)) → List ℕ → Type 0
IsSourceTextBy Done task source main written = IsSourceAnswer task source main written
IsSourceTextBy (NotConstructive stuck) task source main written = written ≡ stuck.trace.items
IsSourceTextBy others task source main written = IsSourceAnswer task source main written
    ⊎ ((stuck : Stuck) × StandsForStuck source main stuck × (written ≡ stuck.trace.items))

-- what is left of that
abbrev pub LeavesSourceAnswer : Task → (source : List ℕ) → (main : Option (List ℕ)) → SinkChange → OptOutcome
    → Type 0
LeavesSourceAnswer task source main s outcome = LeavesAnswer task (IsSourceTextBy outcome task source main) s outcome

-- the same of the source in a file
abbrev pub IsSourceTextOf : OptOutcome → Task → (name : List ℕ) → (main : Option (List ℕ)) → Content → List ℕ → Type 0
IsSourceTextOf outcome task name main content written =
    Holds content name (λ source. IsSourceTextBy outcome task source main written)

abbrev pub GainsOut : Result Request (List ℕ) → Content → OptOutcome → SinkChange → Type 0
GainsOut (Err misuse) content outcome s = Appends s.before s.after s.faults_before s.faults_now []
GainsOut (Ok (Tell about)) content outcome s = LeavesText (λ written. written ≡ own_text about) s (written_of outcome)
GainsOut (Ok (Do task given name)) content outcome s = LeavesAnswer task (IsTextOf task given name content) s outcome
GainsOut (Ok (Make task name main)) content outcome s =
    LeavesAnswer task (IsSourceTextOf outcome task name main content) s outcome
