-- To believe: the line that is written about an outcome.
use Rattle.std.specs.Prelude.{⊤, ℕ, Bool, true, false, IsTrue, List, [], ◌++◌, Option, codes, decimal}
use Rattle.std.specs.Prelude.{unwrap_or, Result, Ok, Err}
use Rattle.base_types.specs.SinkChanges.{SinkChange}
use Rattle.cec_compile.specs.declared.refusal.Refusal.TheVariants as refusing
use Rattle.cec_cycles.specs.declared.findings.Stuck.{Stuck}
use Rattle.cec_refusals.specs.RefusalLines.{RefusalSubject, refusal_line}
use Rattle.csub_embed.specs.declared.fault.EmbedFault.{EmbedFault}
use Rattle.csub_embed.specs.declared.fault.EmbedFault.TheVariants.{NoName, TypeTaken, Reserved}
use Rattle.vlog_reset.specs.declared.fault.ResetFault.{ResetFault}
use Rattle.vlog_reset.specs.declared.fault.ResetFault.TheVariants as naming
use Rattle.cec_text_io.specs.Contents.{Content, IsHeld}
use Rattle.cec_text_io.specs.ErrorLines.{GainsLine}
use Rattle.cec_refusals.specs.BlifFaults.{blif_fault_text}
use Rattle.cec_opt_commands.specs.Words.{Request, Tell, Do, Make}
use Rattle.cec_opt_commands.specs.declared.outcome.OptOutcome.{OptOutcome}
use Rattle.cec_opt_commands.specs.declared.outcome.OptOutcome.TheVariants.{Done, Usage, FileFault, BadText, TooLong}
use Rattle.cec_opt_commands.specs.declared.outcome.OptOutcome.TheVariants.{BadComponent, BadModule}
use Rattle.cec_opt_commands.specs.declared.outcome.OptOutcome.TheVariants.{Refused, NotConstructive, Undecided}
use Rattle.cec_opt_commands.specs.declared.outcome.OptOutcome.TheVariants.{TooManyNets, WriteFault}
use Rattle.cec_opt_commands.specs.declared.outcome.OptOutcome.TheVariants.{NoMemory}

-- of a component
abbrev pub component_fault_text : EmbedFault → List ℕ
component_fault_text NoName = codes "the name after --embed is not a letter followed by letters, digits and _"
component_fault_text TypeTaken = codes "the name after --embed, with _t, is a type of the library"
component_fault_text (Reserved word) = codes "a signal is a word of C or C++: " ++ word

-- of a module with a reset
abbrev pub reset_fault_text : ResetFault → List ℕ
reset_fault_text naming.NoModule = codes "the name of the module is not a letter followed by letters, digits and _"
reset_fault_text naming.NoReset = codes "the name after --reset is not a letter followed by letters, digits and _"
reset_fault_text (naming.Reserved word) = codes "a name is a word of Verilog: " ++ word
reset_fault_text (naming.Twice name) = codes "two names are the same: " ++ name

-- What a line speaks of: the name of the file that is read, or what is wrong with the words. The name that was asked
-- for the main module, and the bytes, are those of a source.
pub record Subject : Type 0 where
  pub name : List ℕ
  pub main : List ℕ
  pub source : List ℕ

-- no source
abbrev pub named : List ℕ → Subject
named name = record { name = name; main = []; source = [] }

abbrev pub source_subject : (name : List ℕ) (main : Option (List ℕ)) (source : List ℕ) → Subject
source_subject name main source = record { name = name; main = unwrap_or main []; source = source }

-- a line of this program
abbrev pub own_line : List ℕ → List ℕ
own_line said = codes "cec-opt: " ++ (said ++ codes "\n")

-- what the line of a source that does not compile speaks of
abbrev pub refused_of : Subject → RefusalSubject
refused_of s = record { program = codes "cec-opt: "; name = s.name; main = s.main; source = s.source }

-- the instant to which the program has no reaction, and the wires that are unknown there
abbrev pub stuck_text : Stuck → List ℕ
stuck_text stuck = codes "instant " ++ (decimal stuck.instant ++ (codes ": not constructive: " ++ stuck.text.items))

-- the line of an outcome; none for Done
abbrev pub line_of : Subject → OptOutcome → List ℕ
line_of s Done = []
line_of s Usage = own_line (s.name ++ codes ", see cec-opt --help")
line_of s FileFault = own_line (codes "cannot read " ++ s.name)
line_of s (BadText fault) = own_line (blif_fault_text fault)
line_of s (BadComponent fault) = own_line (component_fault_text fault)
line_of s (BadModule fault) = own_line (reset_fault_text fault)
line_of s TooLong = own_line (codes "limit: text")
line_of s (Refused refusal) = refusal_line (refused_of s) refusal
line_of s (NotConstructive stuck) = own_line (stuck_text stuck)
line_of s (Undecided cycle) = own_line (codes "undecided: " ++ cycle.text.items)
line_of s (TooManyNets cycle) = own_line (codes "limit: nets: " ++ cycle.text.items)
line_of s WriteFault = own_line (codes "cannot write")
line_of s NoMemory = own_line (codes "out of memory")

-- what a person who waits reads before much is optimized
abbrev pub told_first : (waits : Bool) → List ℕ
told_first true = own_line (codes "optimizing, which can take a minute")
told_first false = []

-- What `err` gained: the line of an outcome, and before it the one for a person who waits, if that is wanted. Where its
-- count of faults rose it is a prefix of both.
pub record GainsAfter (progress : Bool) (s : SinkChange) (line : List ℕ) : Type 0 where
  pub waits : Bool
  pub wanted : IsTrue waits → IsTrue progress
  pub gains : GainsLine s.before s.after s.faults_before s.faults_now (told_first waits ++ line)

-- a line about a static fault speaks of the source that the file holds
abbrev pub SpeaksOf : Content → (name : List ℕ) → OptOutcome → List ℕ → Type 0
SpeaksOf content name (Refused (refusing.Static fault)) source = IsHeld content name source
SpeaksOf content name others source = ⊤

-- What `err` gained about a source. A source of which the line speaks is the one that the file holds.
pub record GainsSourceErr (progress : Bool) (name : List ℕ) (main : Option (List ℕ)) (content : Content)
    (outcome : OptOutcome) (s : SinkChange) : Type 0 where
  pub source : List ℕ
  pub held : SpeaksOf content name outcome source
  pub gains : GainsAfter progress s (line_of (source_subject name main source) outcome)

-- the same about a request; or the line about what is wrong with the words
abbrev pub GainsErr : (progress : Bool) → Result Request (List ℕ) → Content → OptOutcome
    → (old new : Option (List ℕ)) → (before now : ℕ) → Type 0
GainsErr progress (Err misuse) content outcome old new before now =
    GainsLine old new before now (line_of (named misuse) outcome)
GainsErr progress (Ok (Tell about)) content outcome old new before now =
    GainsLine old new before now (line_of (named []) outcome)
GainsErr progress (Ok (Do task given name)) content outcome old new before now =
    GainsAfter progress (record { before = old; after = new; faults_before = before; faults_now = now })
    (line_of (named name) outcome)
GainsErr progress (Ok (Make task name main)) content outcome old new before now =
    GainsSourceErr progress name main content outcome
    (record { before = old; after = new; faults_before = before; faults_now = now })
