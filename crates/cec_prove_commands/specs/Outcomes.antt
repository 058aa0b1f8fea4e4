-- To believe: what each outcome of the top call says.
use Rattle.std.specs.Prelude.{◌≡◌, ◌≢◌, ◌⊎◌, ℕ, ⊤, Bool, true, false, List, [], Result, Ok, Err}
use Rattle.base_types.specs.Reading.{KeepsFaults, Notes}
use Rattle.base_types.specs.SinkChanges.{SinkChange}
use Rattle.base_types.specs.Writing.{Appends}
use Rattle.est_kernel.specs.Plain.{Program, given_names, outgoing_names}
use Rattle.est_front.specs.Sources.{StandsFor}
use Rattle.net_ir.specs.NameLists.{is_among}
use Rattle.net_ir.specs.Netlists.{Netlist}
use Rattle.cec_compile.specs.Refusals.{IsRefused, KeepsGraphLimits}
use Rattle.cec_compile.specs.declared.refusal.Refusal.{Refusal}
use Rattle.cec_compile.specs.declared.refusal.Refusal.TheVariants as refusing
use Rattle.cec_cycles.specs.Constructive.{HasCycle, StandsForConstructiveMade, StandsForStuck}
use Rattle.cec_cycles.specs.declared.findings.Stuck.{Stuck}
use Rattle.cec_text_io.specs.Contents.{Content, Holds}
use Rattle.cec_text_io.specs.Writings.{LeavesText}
use Rattle.cec_prove_covers.specs.Coverings.{IsCovering}
use Rattle.cec_prove_sources.specs.Sameness.{AreDifferent, AreSame, SharesInterface}
use Rattle.cec_prove_sources.specs.Surveys.{IsSurveyText}
use Rattle.cec_prove_sources.specs.Verdicts.{AnswersBroken, AnswersHolds, HasSignals, IsNone, PlainQuestion}
use Rattle.cec_prove_sources.specs.declared.questions.Claim.{Claim}
use Rattle.cec_prove_sources.specs.declared.questions.Layout.TheVariants.{LinePerInstant}
use Rattle.cec_prove_commands.specs.HelpTexts.{own_text}
use Rattle.cec_prove_commands.specs.Lines.{second_of, which_of}
use Rattle.cec_prove_commands.specs.Statuses.{written_of}
use Rattle.cec_prove_commands.specs.TextOutcomes.{IsLongText, IsTextDistinction, IsTextRefutation, IsTextSurveyBy}
use Rattle.cec_prove_commands.specs.TextOutcomes.{TextClaimSays, TextComparisonSays, TextSurveySays}
use Rattle.cec_prove_commands.specs.Words.{Job, Request, Tell, Do, Task, Ask, Survey, Cover, Compare, AskText}
use Rattle.cec_prove_commands.specs.Words.{SurveyText, CompareTexts}
use Rattle.cec_prove_commands.specs.declared.outcome.InputFault.{InputFault}
use Rattle.cec_prove_commands.specs.declared.outcome.InputFault.TheVariants.{Unread, Refused, NotConstructive}
use Rattle.cec_prove_commands.specs.declared.outcome.InputFault.TheVariants.{UndecidedCycle, TooManyNets, TooLong}
use Rattle.cec_prove_commands.specs.declared.outcome.ProveOutcome.{ProveOutcome}
use Rattle.cec_prove_commands.specs.declared.outcome.ProveOutcome.TheVariants.{Told, Proved, Refuted, Surveyed}
use Rattle.cec_prove_commands.specs.declared.outcome.ProveOutcome.TheVariants.{Covered, PartlyCovered}
use Rattle.cec_prove_commands.specs.declared.outcome.ProveOutcome.TheVariants.{PartlySurveyed, Undecided, NoSignal}
use Rattle.cec_prove_commands.specs.declared.outcome.ProveOutcome.TheVariants.{NoAssumed, OtherGiven, OtherOutgoing}
use Rattle.cec_prove_commands.specs.declared.outcome.ProveOutcome.TheVariants.{OtherRelations, Usage, BadInput}
use Rattle.cec_prove_commands.specs.declared.outcome.ProveOutcome.TheVariants.{WriteFault, NoMemory}
use Rattle.cec_words.specs.declared.common.Which.{Which}
use Rattle.cec_words.specs.declared.common.Which.TheVariants.{First, Second}

-- The bytes stand for a program whose graph keeps the limits, by its main module, and this is so of it. Its
-- dependencies may go round in circles.
pub record Answered (text : List ℕ) (job : Job) (Says : Program → Type 0) : Type 0 where
  pub program : Program
  pub source : StandsFor text job.main program
  pub limits : KeepsGraphLimits program
  pub says : Says program

-- the cause of a refusal; a cycle is none, and running out of memory is an outcome of its own
abbrev pub IsRefusedFor : Job → Refusal → List ℕ → Type 0
IsRefusedFor job (refusing.Cyclic cycle) text = ⊥
IsRefusedFor job refusing.NoMemory text = ⊥
IsRefusedFor job refusal text = IsRefused text job.main refusal

-- what the fault of a source says of it
abbrev pub SourceFaultSays : InputFault → Job → (source : List ℕ) → Type 0
SourceFaultSays (Refused refusal) job source = IsRefusedFor job refusal source
SourceFaultSays (NotConstructive stuck) job source = StandsForStuck source job.main stuck
SourceFaultSays (UndecidedCycle cycle) job source = HasCycle source job.main cycle
SourceFaultSays (TooManyNets cycle) job source = HasCycle source job.main cycle
SourceFaultSays others job source = ⊥

-- the source stands for a program that is not constructive
abbrev pub IsStuckSource : Job → (source : List ℕ) → Type 0
IsStuckSource job source = (stuck : Stuck) × StandsForStuck source job.main stuck

-- a trace leads to an instant to which this program has no reaction
abbrev pub IsStuckTrace : Job → (source trace : List ℕ) → Type 0
IsStuckTrace job source trace = (stuck : Stuck) × StandsForStuck source job.main stuck × (trace ≡ stuck.trace.items)

-- ---- claims

abbrev pub question_of : Claim → (signal : List ℕ) → Job → PlainQuestion
question_of claim signal job = record { claim = claim; signal = signal; assumed = job.assumed }

-- the trace leads to a reaction that breaks the claim
abbrev pub IsRefutation : PlainQuestion → Job → List ℕ → List ℕ → Type 0
IsRefutation q job text trace = Answered text job (λ p. AnswersBroken LinePerInstant p q trace)

-- the trace of a claim that ended with an outcome
abbrev pub IsClaimTraceBy : PlainQuestion → ProveOutcome → Job → (text trace : List ℕ) → Type 0
IsClaimTraceBy q Refuted job text trace = IsRefutation q job text trace
IsClaimTraceBy q (BadInput First (NotConstructive stuck)) job text trace = trace ≡ stuck.trace.items
IsClaimTraceBy q others job text trace = IsRefutation q job text trace ⊎ IsStuckTrace job text trace

abbrev pub ClaimSays : PlainQuestion → ProveOutcome → Job → List ℕ → Type 0
ClaimSays q Proved job text = Answered text job (λ p. AnswersHolds p q)
ClaimSays q Refuted job text = (trace : List ℕ) × IsRefutation q job text trace
ClaimSays q (Undecided depth) job text = Answered text job (λ p. HasSignals p q)
ClaimSays q NoSignal job text = Answered text job (λ p. is_among q.signal (outgoing_names p) ≡ false)
ClaimSays q NoAssumed job text = Answered text job (λ p. IsNone p q.assumed)
ClaimSays q (BadInput First fault) job text = SourceFaultSays fault job text
ClaimSays q WriteFault job text = ((trace : List ℕ) × IsRefutation q job text trace) ⊎ IsStuckSource job text
ClaimSays q NoMemory job text = ⊤
ClaimSays q others job text = ⊥

-- ---- surveys

-- the lines are the survey of all outgoing signals, and each of them is decided, or not
abbrev pub IsSurveyOf : Job → Bool → List ℕ → List ℕ → Type 0
IsSurveyOf job whole text lines = Answered text job (λ p. IsSurveyText p job.assumed (outgoing_names p) lines whole)

-- the lines of a survey that ended with an outcome, or the trace
abbrev pub IsSurveyBy : ProveOutcome → Job → List ℕ → List ℕ → Type 0
IsSurveyBy Surveyed job text lines = IsSurveyOf job true text lines
IsSurveyBy PartlySurveyed job text lines = IsSurveyOf job false text lines
IsSurveyBy (BadInput First (NotConstructive stuck)) job text lines = lines ≡ stuck.trace.items
IsSurveyBy others job text lines = ((whole : Bool) × IsSurveyOf job whole text lines) ⊎ IsStuckTrace job text lines

abbrev pub SurveySays : ProveOutcome → Job → List ℕ → Type 0
SurveySays Surveyed job text = (lines : List ℕ) × IsSurveyOf job true text lines
SurveySays PartlySurveyed job text = (lines : List ℕ) × IsSurveyOf job false text lines
SurveySays NoAssumed job text = Answered text job (λ p. IsNone p job.assumed)
SurveySays (BadInput First fault) job text = SourceFaultSays fault job text
SurveySays WriteFault job text =
    ((whole : Bool) × ((lines : List ℕ) × IsSurveyOf job whole text lines)) ⊎ IsStuckSource job text
SurveySays NoMemory job text = ⊤
SurveySays others job text = ⊥

-- ---- coverings

-- the lines are those of all points, and each of them is decided, or not
abbrev pub IsCoveringOf : Job → Bool → List ℕ → List ℕ → Type 0
IsCoveringOf job whole text lines = Answered text job (λ p. IsCovering text job.main job.assumed lines whole)

-- the lines of a covering that ended with an outcome, or the trace
abbrev pub IsCoveringBy : ProveOutcome → Job → List ℕ → List ℕ → Type 0
IsCoveringBy Covered job text lines = IsCoveringOf job true text lines
IsCoveringBy PartlyCovered job text lines = IsCoveringOf job false text lines
IsCoveringBy (BadInput First (NotConstructive stuck)) job text lines = lines ≡ stuck.trace.items
IsCoveringBy others job text lines =
    ((whole : Bool) × IsCoveringOf job whole text lines) ⊎ IsStuckTrace job text lines

abbrev pub CoveringSays : ProveOutcome → Job → List ℕ → Type 0
CoveringSays Covered job text = (lines : List ℕ) × IsCoveringOf job true text lines
CoveringSays PartlyCovered job text = (lines : List ℕ) × IsCoveringOf job false text lines
CoveringSays NoAssumed job text = Answered text job (λ p. IsNone p job.assumed)
CoveringSays (BadInput First fault) job text = SourceFaultSays fault job text
CoveringSays WriteFault job text =
    ((whole : Bool) × ((lines : List ℕ) × IsCoveringOf job whole text lines)) ⊎ IsStuckSource job text
CoveringSays NoMemory job text = ⊤
CoveringSays others job text = ⊥

-- ---- comparisons

-- The bytes of each of two texts stand for a program whose graph keeps the limits, and this is so of the two programs.
pub record Compared (first second : List ℕ) (job : Job) (Says : Program → Program → Type 0) : Type 0 where
  pub left : Program
  pub left_source : StandsFor first job.main left
  pub left_limits : KeepsGraphLimits left
  pub right : Program
  pub right_source : StandsFor second job.main right
  pub right_limits : KeepsGraphLimits right
  pub says : Says left right

-- the trace leads to reactions that differ
abbrev pub IsDistinction : Job → (first second trace : List ℕ) → Type 0
IsDistinction job first second trace = Compared first second job (λ p q. AreDifferent p q trace)

-- The source stands for a program whose graph keeps the limits, and a netlist keeps what it means. So over all events
-- that meet the relations, and resets, its reactions are constructive.
abbrev pub HasConstructive : Job → (source : List ℕ) → Type 0
HasConstructive job source =
    (program : Program) × (net : Netlist) × StandsForConstructiveMade source job.main program net

-- What the fault of one of two sources says. One of the second source that is no refusal comes only where the first
-- one is constructive.
abbrev pub SourcesFaultSays : Which → InputFault → Job → (first second : List ℕ) → Type 0
SourcesFaultSays First fault job first second = SourceFaultSays fault job first
SourcesFaultSays Second (Refused refusal) job first second = IsRefusedFor job refusal second
SourcesFaultSays Second others job first second = HasConstructive job first × SourceFaultSays others job second

-- one of the two sources is not constructive
abbrev pub IsStuckPair : Job → (first second : List ℕ) → Type 0
IsStuckPair job first second =
    (which : Which) × (stuck : Stuck) × SourcesFaultSays which (NotConstructive stuck) job first second

-- a trace leads to an instant to which one of the two sources has no reaction
abbrev pub IsStuckPairTrace : Job → (first second trace : List ℕ) → Type 0
IsStuckPairTrace job first second trace = (which : Which) × (stuck : Stuck)
    × SourcesFaultSays which (NotConstructive stuck) job first second × (trace ≡ stuck.trace.items)

-- the trace of a comparison that ended with an outcome
abbrev pub IsDistinctionBy : ProveOutcome → Job → (first second trace : List ℕ) → Type 0
IsDistinctionBy Refuted job first second trace = IsDistinction job first second trace
IsDistinctionBy (BadInput which (NotConstructive stuck)) job first second trace = trace ≡ stuck.trace.items
IsDistinctionBy others job first second trace =
    IsDistinction job first second trace ⊎ IsStuckPairTrace job first second trace

abbrev pub ComparisonSays : ProveOutcome → Job → (first second : List ℕ) → Type 0
ComparisonSays Proved job first second = Compared first second job AreSame
ComparisonSays Refuted job first second = (trace : List ℕ) × IsDistinction job first second trace
ComparisonSays (Undecided depth) job first second = Compared first second job SharesInterface
ComparisonSays OtherGiven job first second = Compared first second job (λ p q. given_names p ≢ given_names q)
ComparisonSays OtherOutgoing job first second = Compared first second job (λ p q. outgoing_names p ≢ outgoing_names q)
ComparisonSays OtherRelations job first second = Compared first second job (λ p q. p.relations ≢ q.relations)
ComparisonSays (BadInput which fault) job first second = SourcesFaultSays which fault job first second
ComparisonSays WriteFault job first second =
    ((trace : List ℕ) × IsDistinction job first second trace) ⊎ IsStuckPair job first second
ComparisonSays NoMemory job first second = ⊤
ComparisonSays others job first second = ⊥

-- ---- files

-- a fact about the bytes in two files
abbrev pub BothHold : Content → (first second : List ℕ) → (List ℕ → List ℕ → Type 0) → Type 0
BothHold content first second fact = Holds content first (λ text. Holds content second (fact text))

-- what an outcome says of the file with the source; a file fault says nothing of bytes
abbrev pub AgreesOnFile : Content → (name : List ℕ) → (ProveOutcome → List ℕ → Type 0) → ProveOutcome → Type 0
AgreesOnFile content name Says (BadInput First Unread) = ⊤
AgreesOnFile content name Says others = Holds content name (Says others)

-- the same of two files; where one of the sources is refused, it says nothing of the other one
abbrev pub AgreesOnFiles : Content → Job → (other : List ℕ) → ProveOutcome → Type 0
AgreesOnFiles content job other (BadInput which Unread) = ⊤
AgreesOnFiles content job other (BadInput which (Refused refusal)) =
    Holds content (which_of which job.name other) (IsRefusedFor job refusal)
AgreesOnFiles content job other others = BothHold content job.name other (ComparisonSays others job)

-- the same of two texts; where one of them is too long, it says nothing of the other one
abbrev pub AgreesOnTexts : Content → Job → (other : List ℕ) → ProveOutcome → Type 0
AgreesOnTexts content job other (BadInput which Unread) = ⊤
AgreesOnTexts content job other (BadInput which TooLong) = Holds content (which_of which job.name other) IsLongText
AgreesOnTexts content job other others = BothHold content job.name other (TextComparisonSays others)

abbrev pub AgreesOnTask : Task → Content → Job → ProveOutcome → Type 0
AgreesOnTask (Ask claim signal) content job outcome =
    AgreesOnFile content job.name (λ o text. ClaimSays (question_of claim signal job) o job text) outcome
AgreesOnTask Survey content job outcome = AgreesOnFile content job.name (λ o text. SurveySays o job text) outcome
AgreesOnTask Cover content job outcome = AgreesOnFile content job.name (λ o text. CoveringSays o job text) outcome
AgreesOnTask (Compare other) content job outcome = AgreesOnFiles content job other outcome
AgreesOnTask (AskText claim signal) content job outcome =
    AgreesOnFile content job.name (λ o text. TextClaimSays (question_of claim signal job) o text) outcome
AgreesOnTask SurveyText content job outcome =
    AgreesOnFile content job.name (λ o text. TextSurveySays o job.assumed text) outcome
AgreesOnTask (CompareTexts other) content job outcome = AgreesOnTexts content job other outcome

-- how a command ends that reads no file
abbrev pub IsWriting : ProveOutcome → Type 0
IsWriting Told = ⊤
IsWriting WriteFault = ⊤
IsWriting NoMemory = ⊤
IsWriting others = ⊥

-- what an outcome says of the words and of the bytes in the files
abbrev pub IsOutcomeOf : Result Request (List ℕ) → Content → ProveOutcome → Type 0
IsOutcomeOf (Err misuse) content outcome = outcome ≡ Usage
IsOutcomeOf (Ok (Tell about)) content outcome = IsWriting outcome
IsOutcomeOf (Ok (Do job)) content outcome = AgreesOnTask job.task content job outcome

-- The count of faults of the files and the name that failed last: a file fault raised the count, and the name is the
-- file's; every other outcome leaves both.
abbrev pub CountsJob : Job → ProveOutcome → (before now : ℕ) (failed_before failed_now : List ℕ) → Type 0
CountsJob job (BadInput which Unread) before now failed_before failed_now =
    Notes before now (which_of which job.name (second_of job.task)) failed_now
CountsJob job others before now failed_before failed_now = KeepsFaults before now failed_before failed_now

abbrev pub CountsFiles : Result Request (List ℕ) → ProveOutcome → (before now : ℕ) (failed_before failed_now : List ℕ)
    → Type 0
CountsFiles (Ok (Do job)) outcome before now failed_before failed_now =
    CountsJob job outcome before now failed_before failed_now
CountsFiles (Ok (Tell about)) outcome before now failed_before failed_now =
    KeepsFaults before now failed_before failed_now
CountsFiles (Err misuse) outcome before now failed_before failed_now =
    KeepsFaults before now failed_before failed_now

-- ---- what is written

-- what a task writes about the sources, or the texts, in the files, where it ends with an outcome: a trace, a survey or
-- a covering
abbrev pub IsTextOf : Task → Job → Content → ProveOutcome → List ℕ → Type 0
IsTextOf (Ask claim signal) job content outcome written =
    Holds content job.name (λ text. IsClaimTraceBy (question_of claim signal job) outcome job text written)
IsTextOf Survey job content outcome written = Holds content job.name (λ text. IsSurveyBy outcome job text written)
IsTextOf Cover job content outcome written = Holds content job.name (λ text. IsCoveringBy outcome job text written)
IsTextOf (Compare other) job content outcome written =
    BothHold content job.name other (λ first second. IsDistinctionBy outcome job first second written)
IsTextOf (AskText claim signal) job content outcome written =
    Holds content job.name (λ text. IsTextRefutation (question_of claim signal job) text written)
IsTextOf SurveyText job content outcome written =
    Holds content job.name (λ text. IsTextSurveyBy outcome job.assumed text written)
IsTextOf (CompareTexts other) job content outcome written =
    BothHold content job.name other (λ first second. IsTextDistinction first second written)

-- what `out` gained: what a task writes, or what the program writes about itself, and else nothing
abbrev pub GainsOut : Result Request (List ℕ) → Content → ProveOutcome → SinkChange → Type 0
GainsOut (Err misuse) content outcome s = Appends s.before s.after s.faults_before s.faults_now []
GainsOut (Ok (Tell about)) content outcome s = LeavesText (λ written. written ≡ own_text about) s (written_of outcome)
GainsOut (Ok (Do job)) content outcome s = LeavesText (IsTextOf job.task job content outcome) s (written_of outcome)
