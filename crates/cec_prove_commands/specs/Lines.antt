-- To believe: the line that is written about an outcome.
use Rattle.std.specs.Prelude.{⊤, ℕ, ◌+◌, ◌≤◌, Bool, true, false, List, [], ◌++◌, Option, Result, Ok, Err, codes}
use Rattle.std.specs.Prelude.{decimal, zero, suc, unwrap_or}
use Rattle.cec_compile.specs.declared.refusal.Refusal.TheVariants as refusing
use Rattle.cec_cycles.specs.declared.findings.Stuck.{Stuck}
use Rattle.cec_refusals.specs.RefusalLines.{RefusalSubject, refusal_line}
use Rattle.cec_text_io.specs.Contents.{Content, IsHeld}
use Rattle.cec_text_io.specs.ErrorLines.{GainsLine}
use Rattle.cec_refusals.specs.BlifFaults.{blif_fault_text}
use Rattle.cec_prove_commands.specs.Words.{Job, Request, Tell, Do, Task, Ask, Survey, Cover, Compare, AskText}
use Rattle.cec_prove_commands.specs.Words.{SurveyText, CompareTexts}
use Rattle.cec_prove_commands.specs.declared.outcome.InputFault.{InputFault}
use Rattle.cec_prove_commands.specs.declared.outcome.InputFault.TheVariants.{Unread, Refused, NotConstructive}
use Rattle.cec_prove_commands.specs.declared.outcome.InputFault.TheVariants.{UndecidedCycle, TooManyNets, BadText}
use Rattle.cec_prove_commands.specs.declared.outcome.InputFault.TheVariants.{TooLong}
use Rattle.cec_prove_commands.specs.declared.outcome.ProveOutcome.{ProveOutcome}
use Rattle.cec_prove_commands.specs.declared.outcome.ProveOutcome.TheVariants.{Told, Proved, Refuted, Surveyed}
use Rattle.cec_prove_commands.specs.declared.outcome.ProveOutcome.TheVariants.{Covered, PartlyCovered}
use Rattle.cec_prove_commands.specs.declared.outcome.ProveOutcome.TheVariants.{PartlySurveyed, Undecided, NoSignal}
use Rattle.cec_prove_commands.specs.declared.outcome.ProveOutcome.TheVariants.{NoAssumed, OtherGiven, OtherOutgoing}
use Rattle.cec_prove_commands.specs.declared.outcome.ProveOutcome.TheVariants.{OtherRelations, Usage, BadInput}
use Rattle.cec_prove_commands.specs.declared.outcome.ProveOutcome.TheVariants.{WriteFault, NoMemory}
use Rattle.cec_words.specs.declared.common.Which.{Which}
use Rattle.cec_words.specs.declared.common.Which.TheVariants.{First, Second}

-- what a line speaks of
pub record Subject : Type 0 where
  pub name : List ℕ
  pub other : List ℕ
  pub signal : List ℕ
  pub assumed : List ℕ
  pub main : List ℕ
  pub source : List ℕ

-- nothing to speak of
abbrev pub nothing : Subject
nothing = record { name = []; other = []; signal = []; assumed = []; main = []; source = [] }

-- a line of this program
abbrev pub own_line : List ℕ → List ℕ
own_line said = codes "cec-prove: " ++ (said ++ codes "\n")

-- the line about what is wrong with words that have no meaning
abbrev pub misuse_line : (misuse : List ℕ) → List ℕ
misuse_line misuse = own_line (misuse ++ codes ", see cec-prove --help")

-- what belongs to the first file, or to the second one
abbrev pub which_of : Which → (first second : List ℕ) → List ℕ
which_of First first second = first
which_of Second first second = second

-- what the line of a source that does not compile speaks of
abbrev pub refused_of : Subject → Which → RefusalSubject
refused_of s which = record {
  program = codes "cec-prove: ";
  name = which_of which s.name s.other;
  main = s.main;
  source = s.source;
}

-- what a line about the source, or the text, in a file begins with; in that of the second file its name comes next
abbrev pub line_begin : Subject → Which → List ℕ
line_begin s First = codes "cec-prove: "
line_begin s Second = codes "cec-prove: " ++ (s.other ++ codes ": ")

-- such a line
abbrev pub input_line : Subject → Which → List ℕ → List ℕ
input_line s which said = line_begin s which ++ (said ++ codes "\n")

-- the instant to which the program has no reaction, and the wires that are unknown there
abbrev pub stuck_text : Stuck → List ℕ
stuck_text stuck = codes "instant " ++ (decimal stuck.instant ++ (codes ": not constructive: " ++ stuck.text.items))

-- the line about a fault of a file, or of the source or the text in it
abbrev pub fault_line : Subject → Which → InputFault → List ℕ
fault_line s which Unread = own_line (codes "cannot read " ++ which_of which s.name s.other)
fault_line s which (Refused refusal) = refusal_line (refused_of s which) refusal
fault_line s which (NotConstructive stuck) = input_line s which (stuck_text stuck)
fault_line s which (UndecidedCycle cycle) = input_line s which (codes "undecided: " ++ cycle.text.items)
fault_line s which (TooManyNets cycle) = input_line s which (codes "limit: nets: " ++ cycle.text.items)
fault_line s which (BadText fault) = input_line s which (blif_fault_text fault)
fault_line s which TooLong = input_line s which (codes "limit: text")

-- the line of an outcome; none for Told
abbrev pub line_of : Subject → ProveOutcome → List ℕ
line_of s Told = []
line_of s Proved = own_line (codes "proved")
line_of s Refuted = own_line (codes "refuted")
line_of s Surveyed = own_line (codes "all signals are decided")
line_of s PartlySurveyed = own_line (codes "some signals are undecided")
line_of s Covered = own_line (codes "all points are decided")
line_of s PartlyCovered = own_line (codes "some points are undecided")
line_of s (Undecided depth) = own_line (codes "undecided, instants searched: " ++ decimal depth)
line_of s NoSignal = own_line (codes "no outgoing signal " ++ s.signal)
line_of s NoAssumed = own_line (codes "no outgoing signal " ++ s.assumed)
line_of s OtherGiven = own_line (codes "the given signals differ")
line_of s OtherOutgoing = own_line (codes "the outgoing signals differ")
line_of s OtherRelations = own_line (codes "the relations differ")
line_of s Usage = own_line (codes "no meaning")
line_of s (BadInput which fault) = fault_line s which fault
line_of s WriteFault = own_line (codes "cannot write")
line_of s NoMemory = own_line (codes "out of memory")

-- the signal that a task asks about
abbrev pub asked_signal : Task → List ℕ
asked_signal (Ask claim signal) = signal
asked_signal Survey = []
asked_signal Cover = []
asked_signal (Compare other) = []
asked_signal (AskText claim signal) = signal
asked_signal SurveyText = []
asked_signal (CompareTexts other) = []

-- the second file of a task
abbrev pub second_of : Task → List ℕ
second_of (Ask claim signal) = []
second_of Survey = []
second_of Cover = []
second_of (Compare other) = other
second_of (AskText claim signal) = []
second_of SurveyText = []
second_of (CompareTexts other) = other

-- a line about a static fault speaks of the source that the file holds
abbrev pub SpeaksOf : Content → Job → ProveOutcome → List ℕ → Type 0
SpeaksOf content job (BadInput which (Refused (refusing.Static fault))) source =
    IsHeld content (which_of which job.name (second_of job.task)) source
SpeaksOf content job others source = ⊤

-- the subject of a task about a source with these bytes
abbrev pub job_subject : Job → List ℕ → Subject
job_subject job source = record {
  name = job.name;
  other = second_of job.task;
  signal = asked_signal job.task;
  assumed = unwrap_or job.assumed [];
  main = unwrap_or job.main [];
  source = source;
}

-- ---- progress

-- the line that is written before a try, from the second one on
abbrev pub progress_line : (number : ℕ) → List ℕ
progress_line number = own_line (codes "not decided yet, searching longer (" ++ (decimal number ++ codes " of 4)"))

-- the lines before the tries that follow the first one, where this is their number
abbrev pub progress_lines : (further : ℕ) → List ℕ
progress_lines zero = []
progress_lines (suc n) = progress_lines n ++ progress_line (n + 2)

-- how many tries may follow the first one: none where no progress is asked for
abbrev pub most_further : (progress : Bool) → ℕ
most_further true = 3
most_further false = 0

-- What `err` gained about a task: a line for each try that followed the first one, and the line of the outcome, or a
-- prefix of these where its count of faults rose. A source of which the line speaks is the one that the file holds.
pub record GainsJobErr (progress : Bool) (job : Job) (content : Content) (outcome : ProveOutcome)
    (old new : Option (List ℕ)) (before now : ℕ) : Type 0 where
  pub source : List ℕ
  pub held : SpeaksOf content job outcome source
  pub further : ℕ
  pub few : further ≤ most_further progress
  pub gains : GainsLine old new before now (progress_lines further ++ line_of (job_subject job source) outcome)

-- the same about a request; of words without a meaning the line says what is wrong with them
abbrev pub GainsErr : (progress : Bool) → Result Request (List ℕ) → Content → ProveOutcome
    → (old new : Option (List ℕ)) → (before now : ℕ) → Type 0
GainsErr progress (Err misuse) content outcome old new before now = GainsLine old new before now (misuse_line misuse)
GainsErr progress (Ok (Tell about)) content outcome old new before now =
    GainsLine old new before now (line_of nothing outcome)
GainsErr progress (Ok (Do job)) content outcome old new before now =
    GainsJobErr progress job content outcome old new before now
