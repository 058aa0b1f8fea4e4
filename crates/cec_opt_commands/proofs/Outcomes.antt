-- What the answers of the steps say of the whole call.
use Rattle.std.proofs.Common.{◌≡◌, ℕ, ◌≤◌, Bool, false, List, [], length, Option, Some, None, Ok, Err, inl, inr, refl, sym, subst}
use Rattle.std.proofs.lemmas.Bool.{false≢true}
use Rattle.base_types.specs.declared.bounds.TheConstants.Limits.{SOURCE_BYTES, TEXT_BYTES}
use Rattle.base_types.specs.declared.files.reading.FileFault as unread
use Rattle.base_types.specs.declared.files.reading.FileFault.TheVariants as reading
use Rattle.base_types.specs.declared.stop.Stop.{Stop}
use Rattle.base_types.specs.declared.stop.Stop.TheVariants as stops
use Rattle.base_types.specs.Reading.{Reads, Counts, KeepsFaults}
use Rattle.base_types.specs.SinkChanges.{SinkChange}
use Rattle.base_types.specs.Stops.{FaultIs}
use Rattle.base_types.specs.Writing.{Appends}
use Rattle.cec_compile.specs.declared.refusal.Refusal as refusals
use Rattle.cec_compile.specs.declared.refusal.Refusal.TheVariants as refusing
use Rattle.cec_cycles.specs.Constructive.{IsOtherRefusal, IsRefusedConstructive, StandsForStuck}
use Rattle.cec_cycles.specs.declared.findings.CycleRefusal.{CycleRefusal}
use Rattle.cec_cycles.specs.declared.findings.CycleRefusal.TheVariants as causes
use Rattle.cec_cycles.specs.declared.findings.Stuck.{Stuck}
use Rattle.cec_opt_faults.specs.Causes.{IsSourceCause, IsUnmade}
use Rattle.cec_opt_faults.specs.declared.unmade.Unmade.{Unmade}
use Rattle.cec_opt_faults.specs.declared.unmade.Unmade.TheVariants.{NoNet, NoText}
use Rattle.cec_opt_texts.specs.Faults.{IsGivenFault}
use Rattle.cec_opt_texts.specs.Related.{GivenRelation}
use Rattle.blif_read.specs.declared.fault.BlifFault.{BlifFault}
use Rattle.cec_text_io.proofs.Pieces as texts
use Rattle.cec_text_io.proofs.Exports.{long_unread, some_bytes}
use Rattle.cec_text_io.specs.Contents.{Content, IsHeld}
use Rattle.cec_text_io.specs.ErrorLines.{GainsLine}
use Rattle.cec_text_io.specs.Writings.{LeavesText, LeavesPieces}
use Rattle.cec_text_io.specs.declared.writing.Written.{Written}
use Rattle.cec_text_io.specs.declared.writing.Written.TheVariants as ends
use Rattle.cec_opt_commands.specs.Answers.{IsAnswer, IsSourceAnswer}
use Rattle.cec_opt_commands.specs.Lines.{GainsAfter, GainsSourceErr, SpeaksOf, line_of, source_subject}
use Rattle.cec_opt_commands.specs.Outcomes.{HasNet, SaysOf, IsConstructible, SourceSays, AgreesOnFile, IsWriting, IsOptOutcomeOf}
use Rattle.cec_opt_commands.specs.Outcomes.{CountsFiles, LeavesAnswer, LeavesSourceAnswer, IsTextOf, IsSourceTextBy, IsSourceTextOf, GainsOut}
use Rattle.cec_opt_commands.specs.Stopping.{IsRefusedOutcome, IsUnmadeOutcome}
use Rattle.cec_opt_commands.specs.Statuses.{written_of, written_outcome, stop_outcome, unread_outcome, refusal_outcome, source_unread_outcome, stuck_outcome}
use Rattle.cec_opt_commands.specs.Statuses.{unmade_outcome}
use Rattle.cec_opt_commands.specs.Words.{Request, Task, Tell, Do, Make, Write, Embed, Reset, Check}
use Rattle.cec_opt_commands.specs.declared.outcome.OptOutcome.{OptOutcome}
use Rattle.cec_opt_commands.specs.declared.outcome.OptOutcome.TheVariants.{Done, Usage, FileFault, BadText, TooLong, Refused, WriteFault, NoMemory}
use Rattle.cec_opt_commands.specs.declared.outcome.OptOutcome.TheVariants.{BadComponent, BadModule, NotConstructive, Undecided, TooManyNets}
use Rattle.cec_opt_commands.specs.declared.words.Form.{Form}

-- ---- how a writing ended

pub written_as : (ended : Written) → Some ended ≡ written_of (written_outcome ended)
written_as ends.Done = refl
written_as ends.WriteFault = refl
written_as ends.NoMemory = refl

pub written_writes : (ended : Written) → IsWriting (written_outcome ended)
written_writes ends.Done = tt
written_writes ends.WriteFault = tt
written_writes ends.NoMemory = tt

-- a text whose netlist was written
pub written_says : (task : Task) (given : List GivenRelation) (ended : Written) (text : List ℕ) → HasNet text
    → SaysOf task given (written_outcome ended) text
written_says task given ends.Done text has = has
written_says task given ends.WriteFault text has = has
written_says task given ends.NoMemory text has = tt

pub written_pieces : (P Q : List ℕ → Type 0) (s : SinkChange) (ended : Written) → ((written : List ℕ) → P written → Q written)
    → LeavesPieces P s (Some ended) → LeavesPieces Q s (written_of (written_outcome ended))
written_pieces P Q s ended f l = subst (LeavesPieces Q s) (written_as ended) (texts.pieces_as P Q s (Some ended) f l)

pub written_text : (P Q : List ℕ → Type 0) (s : SinkChange) (ended : Written) → ((written : List ℕ) → P written → Q written)
    → LeavesText P s (Some ended) → LeavesText Q s (written_of (written_outcome ended))
written_text P Q s ended f l = subst (LeavesText Q s) (written_as ended) (texts.text_as P Q s (Some ended) f l)

-- a source whose netlist was written
pub source_written : (task : Task) (ended : Written) (main : Option (List ℕ)) (source : List ℕ) → IsConstructible main source
    → SourceSays task main (written_outcome ended) source
source_written task ends.Done main source is = is
source_written task ends.WriteFault main source is = inl is
source_written task ends.NoMemory main source is = tt

source_text : (ended : Written) (task : Task) (source : List ℕ) (main : Option (List ℕ)) (written : List ℕ) → IsSourceAnswer task source main written
    → IsSourceTextBy (written_outcome ended) task source main written
source_text ends.Done task source main written is = is
source_text ends.WriteFault task source main written is = inl is
source_text ends.NoMemory task source main written is = inl is

pub source_pieces : (P : List ℕ → Type 0) (form : Form) (source : List ℕ) (main : Option (List ℕ)) (s : SinkChange) (ended : Written)
    → ((written : List ℕ) → P written → IsSourceAnswer (Write form) source main written) → LeavesPieces P s (Some ended)
    → LeavesSourceAnswer (Write form) source main s (written_outcome ended)
source_pieces P form source main s ended f l =
    written_pieces P (IsSourceTextBy (written_outcome ended) (Write form) source main) s ended
    (λ written is. source_text ended (Write form) source main written (f written is)) l

-- of a task that writes its text as a whole
pub source_whole : (P : List ℕ → Type 0) (task : Task) (source : List ℕ) (main : Option (List ℕ)) (s : SinkChange) (ended : Written)
    → ((written : List ℕ) → P written → IsSourceAnswer task source main written) → LeavesText P s (Some ended)
    → LeavesText (IsSourceTextBy (written_outcome ended) task source main) s (written_of (written_outcome ended))
source_whole P task source main s ended f l =
    written_text P (IsSourceTextBy (written_outcome ended) task source main) s ended
    (λ written is. source_text ended task source main written (f written is)) l

-- ---- a text without a netlist

pub stop_says : (task : Task) (given : List GivenRelation) (stop : Stop BlifFault) (text : List ℕ) → length text ≤ TEXT_BYTES
    → FaultIs (IsGivenFault text given) stop → SaysOf task given (stop_outcome stop) text
stop_says task given (stops.Fault fault) text short is = (short, is)
stop_says task given stops.NoMemory text short is = tt

pub stop_leaves : (task : Task) (P : List ℕ → Type 0) (stop : Stop BlifFault) (s : SinkChange) → Appends s.before s.after s.faults_before s.faults_now []
    → LeavesAnswer task P s (stop_outcome stop)
stop_leaves (Write form) P (stops.Fault fault) s a = a
stop_leaves (Write form) P stops.NoMemory s a = inl a
stop_leaves (Embed component layout) P (stops.Fault fault) s a = a
stop_leaves (Embed component layout) P stops.NoMemory s a = a
stop_leaves (Reset options coding) P (stops.Fault fault) s a = a
stop_leaves (Reset options coding) P stops.NoMemory s a = a
stop_leaves Check P (stops.Fault fault) s a = a
stop_leaves Check P stops.NoMemory s a = a

silent_leaves : (task : Task) (P : List ℕ → Type 0) (outcome : OptOutcome) (s : SinkChange) → written_of outcome ≡ None
    → Appends s.before s.after s.faults_before s.faults_now [] → LeavesAnswer task P s outcome
silent_leaves (Write form) P outcome s none a = subst (LeavesPieces P s) (sym none) a
silent_leaves (Embed component layout) P outcome s none a = subst (LeavesText P s) (sym none) a
silent_leaves (Reset options coding) P outcome s none a = subst (LeavesText P s) (sym none) a
silent_leaves Check P outcome s none a = subst (LeavesText P s) (sym none) a

-- or of which no embedded C, or no Verilog with a reset, is made
pub unmade_says : {F : Type 0} (task : Task) (given : List GivenRelation) (outcome_of : F → OptOutcome) (IsFault : F → Type 0)
    (stop : Stop (Unmade BlifFault F)) (text : List ℕ) → length text ≤ TEXT_BYTES → ((fault : F) → IsFault fault → SaysOf task given (outcome_of fault) text)
    → FaultIs (IsUnmade (IsGivenFault text given) IsFault) stop → SaysOf task given (unmade_outcome outcome_of stop) text
unmade_says task given outcome_of IsFault (stops.Fault (NoNet fault)) text short says is = (short, is)
unmade_says task given outcome_of IsFault (stops.Fault (NoText fault)) text short says is = says fault is
unmade_says task given outcome_of IsFault stops.NoMemory text short says is = tt

pub unmade_leaves : {F : Type 0} (task : Task) (P : List ℕ → Type 0) (outcome_of : F → OptOutcome) (stop : Stop (Unmade BlifFault F)) (s : SinkChange)
    → ((fault : F) → written_of (outcome_of fault) ≡ None) → Appends s.before s.after s.faults_before s.faults_now []
    → LeavesAnswer task P s (unmade_outcome outcome_of stop)
unmade_leaves task P outcome_of (stops.Fault (NoNet fault)) s none a = stop_leaves task P (stops.Fault fault) s a
unmade_leaves task P outcome_of (stops.Fault (NoText fault)) s none a = silent_leaves task P (outcome_of fault) s (none fault) a
unmade_leaves task P outcome_of stops.NoMemory s none a = stop_leaves task P stops.NoMemory s a

-- ---- a source that does not compile

refusal_says : (task : Task) (refusal : refusals.Refusal) (main : Option (List ℕ)) (source : List ℕ) → IsOtherRefusal source main refusal
    → SourceSays task main (refusal_outcome refusal) source
refusal_says task (refusing.Static fault) main source is = is
refusal_says task (refusing.Cyclic cycle) main source is = is
refusal_says task (refusing.Limit limit) main source is = is
refusal_says task refusing.NoMemory main source is = tt

refusal_leaves : (task : Task) (P : List ℕ → Type 0) (refusal : refusals.Refusal) (s : SinkChange)
    → Appends s.before s.after s.faults_before s.faults_now [] → LeavesAnswer task P s (refusal_outcome refusal)
refusal_leaves (Write form) P (refusing.Static fault) s a = a
refusal_leaves (Write form) P (refusing.Cyclic cycle) s a = a
refusal_leaves (Write form) P (refusing.Limit limit) s a = a
refusal_leaves (Write form) P refusing.NoMemory s a = inl a
refusal_leaves (Embed component layout) P (refusing.Static fault) s a = a
refusal_leaves (Embed component layout) P (refusing.Cyclic cycle) s a = a
refusal_leaves (Embed component layout) P (refusing.Limit limit) s a = a
refusal_leaves (Embed component layout) P refusing.NoMemory s a = a
refusal_leaves (Reset options coding) P (refusing.Static fault) s a = a
refusal_leaves (Reset options coding) P (refusing.Cyclic cycle) s a = a
refusal_leaves (Reset options coding) P (refusing.Limit limit) s a = a
refusal_leaves (Reset options coding) P refusing.NoMemory s a = a
refusal_leaves Check P (refusing.Static fault) s a = a
refusal_leaves Check P (refusing.Cyclic cycle) s a = a
refusal_leaves Check P (refusing.Limit limit) s a = a
refusal_leaves Check P refusing.NoMemory s a = a

-- the trace of a program that is not constructive was to be written
stuck_says : (task : Task) (stuck : Stuck) (ended : Written) (main : Option (List ℕ)) (source : List ℕ) → StandsForStuck source main stuck
    → SourceSays task main (stuck_outcome stuck ended) source
stuck_says task stuck ends.Done main source is = is
stuck_says task stuck ends.WriteFault main source is = inr (stuck, is)
stuck_says task stuck ends.NoMemory main source is = tt

stuck_leaves : (task : Task) (stuck : Stuck) (ended : Written) (main : Option (List ℕ)) (source : List ℕ) (s : SinkChange)
    → StandsForStuck source main stuck → LeavesText (λ written. written ≡ stuck.trace.items) s (Some ended)
    → LeavesSourceAnswer task source main s (stuck_outcome stuck ended)
stuck_leaves (Write form) stuck ends.Done main source s is l = l
stuck_leaves (Write form) stuck ends.WriteFault main source s is l = (l.0, inr (stuck, is, l.1), l.2)
stuck_leaves (Write form) stuck ends.NoMemory main source s is l = inl l
stuck_leaves (Embed component layout) stuck ends.Done main source s is l = l
stuck_leaves (Embed component layout) stuck ends.WriteFault main source s is l = (l.0, inr (stuck, is, l.1), l.2)
stuck_leaves (Embed component layout) stuck ends.NoMemory main source s is l = l
stuck_leaves (Reset options coding) stuck ends.Done main source s is l = l
stuck_leaves (Reset options coding) stuck ends.WriteFault main source s is l = (l.0, inr (stuck, is, l.1), l.2)
stuck_leaves (Reset options coding) stuck ends.NoMemory main source s is l = l
stuck_leaves Check stuck ends.Done main source s is l = l
stuck_leaves Check stuck ends.WriteFault main source s is l = (l.0, inr (stuck, is, l.1), l.2)
stuck_leaves Check stuck ends.NoMemory main source s is l = l

pub refused_says : (task : Task) (refusal : CycleRefusal) (main : Option (List ℕ)) (source : List ℕ) (s : SinkChange) (outcome : OptOutcome)
    → IsRefusedConstructive source main refusal → IsRefusedOutcome refusal s outcome → SourceSays task main outcome source
refused_says task (causes.Source refusal) main source s outcome is o =
    subst (λ x. SourceSays task main x source) (sym o.is) (refusal_says task refusal main source is)
refused_says task (causes.NotConstructive stuck) main source s outcome is o =
    subst (λ x. SourceSays task main x source) (sym o.is) (stuck_says task stuck o.ended main source is)
refused_says task (causes.Undecided cycle) main source s outcome is o = subst (λ x. SourceSays task main x source) (sym o.is) is
refused_says task (causes.TooManyNets cycle) main source s outcome is o = subst (λ x. SourceSays task main x source) (sym o.is) is

pub refused_leaves : (task : Task) (refusal : CycleRefusal) (main : Option (List ℕ)) (source : List ℕ) (s : SinkChange) (outcome : OptOutcome)
    → IsRefusedConstructive source main refusal → IsRefusedOutcome refusal s outcome → LeavesSourceAnswer task source main s outcome
refused_leaves task (causes.Source refusal) main source s outcome is o =
    subst (LeavesSourceAnswer task source main s) (sym o.is)
    (refusal_leaves task (IsSourceTextBy (refusal_outcome refusal) task source main) refusal s o.silent)
refused_leaves task (causes.NotConstructive stuck) main source s outcome is o =
    subst (LeavesSourceAnswer task source main s) (sym o.is) (stuck_leaves task stuck o.ended main source s is o.leaves)
refused_leaves task (causes.Undecided cycle) main source s outcome is o =
    subst (LeavesSourceAnswer task source main s) (sym o.is)
    (silent_leaves task (IsSourceTextBy (Undecided cycle) task source main) (Undecided cycle) s refl o.silent)
refused_leaves task (causes.TooManyNets cycle) main source s outcome is o =
    subst (LeavesSourceAnswer task source main s) (sym o.is)
    (silent_leaves task (IsSourceTextBy (TooManyNets cycle) task source main) (TooManyNets cycle) s refl o.silent)

-- a source of which no embedded C, or no Verilog with a reset, is made
pub unmade_source_says : {F : Type 0} (task : Task) (outcome_of : F → OptOutcome) (IsFault : F → Type 0) (stop : Stop (Unmade CycleRefusal F))
    (main : Option (List ℕ)) (source : List ℕ) (s : SinkChange) (outcome : OptOutcome)
    → ((fault : F) → IsFault fault → SourceSays task main (outcome_of fault) source) → FaultIs (IsUnmade (IsSourceCause source main) IsFault) stop
    → IsUnmadeOutcome outcome_of stop s outcome → SourceSays task main outcome source
unmade_source_says task outcome_of IsFault (stops.Fault (NoNet refusal)) main source s outcome says is o =
    refused_says task refusal main source s outcome is.1 o
unmade_source_says task outcome_of IsFault (stops.Fault (NoText fault)) main source s outcome says is o =
    subst (λ x. SourceSays task main x source) (sym o.is) (says fault is)
unmade_source_says task outcome_of IsFault stops.NoMemory main source s outcome says is o =
    subst (λ x. SourceSays task main x source) (sym o.is) tt

pub unmade_source_leaves : {F : Type 0} (task : Task) (outcome_of : F → OptOutcome) (IsFault : F → Type 0) (stop : Stop (Unmade CycleRefusal F))
    (main : Option (List ℕ)) (source : List ℕ) (s : SinkChange) (outcome : OptOutcome) → ((fault : F) → written_of (outcome_of fault) ≡ None)
    → FaultIs (IsUnmade (IsSourceCause source main) IsFault) stop → IsUnmadeOutcome outcome_of stop s outcome
    → LeavesSourceAnswer task source main s outcome
unmade_source_leaves task outcome_of IsFault (stops.Fault (NoNet refusal)) main source s outcome none is o =
    refused_leaves task refusal main source s outcome is.1 o
unmade_source_leaves task outcome_of IsFault (stops.Fault (NoText fault)) main source s outcome none is o =
    subst (LeavesSourceAnswer task source main s) (sym o.is)
    (silent_leaves task (IsSourceTextBy (outcome_of fault) task source main) (outcome_of fault) s (none fault) o.silent)
unmade_source_leaves task outcome_of IsFault stops.NoMemory main source s outcome none is o =
    subst (LeavesSourceAnswer task source main s) (sym o.is)
    (refusal_leaves task (IsSourceTextBy NoMemory task source main) refusing.NoMemory s o.silent)

-- ---- a file that was read

-- what is said of its bytes leaves no file fault
pub file_agrees : (content : Content) (name : List ℕ) (Says : OptOutcome → List ℕ → Type 0) (outcome : OptOutcome) (bytes : List ℕ)
    → IsHeld content name bytes → Says outcome bytes → (Says FileFault bytes → ⊥) → AgreesOnFile content name Says outcome
file_agrees content name Says Done bytes held says apart = (bytes, held, says)
file_agrees content name Says Usage bytes held says apart = (bytes, held, says)
file_agrees content name Says FileFault bytes held says apart = absurd (apart says)
file_agrees content name Says (BadText fault) bytes held says apart = (bytes, held, says)
file_agrees content name Says (BadComponent fault) bytes held says apart = (bytes, held, says)
file_agrees content name Says (BadModule fault) bytes held says apart = (bytes, held, says)
file_agrees content name Says TooLong bytes held says apart = (bytes, held, says)
file_agrees content name Says (Refused refusal) bytes held says apart = (bytes, held, says)
file_agrees content name Says (NotConstructive stuck) bytes held says apart = (bytes, held, says)
file_agrees content name Says (Undecided cycle) bytes held says apart = (bytes, held, says)
file_agrees content name Says (TooManyNets cycle) bytes held says apart = (bytes, held, says)
file_agrees content name Says WriteFault bytes held says apart = (bytes, held, says)
file_agrees content name Says NoMemory bytes held says apart = (bytes, held, says)

pub read_agrees : (content : Content) (task : Task) (given : List GivenRelation) (name : List ℕ) (outcome : OptOutcome) (text : List ℕ)
    → IsHeld content name text → SaysOf task given outcome text → IsOptOutcomeOf (Ok (Do task given name)) content outcome
read_agrees content task given name outcome text held says = file_agrees content name (SaysOf task given) outcome text held says (λ none. none)

pub source_agrees : (content : Content) (task : Task) (name : List ℕ) (main : Option (List ℕ)) (outcome : OptOutcome) (source : List ℕ)
    → IsHeld content name source → SourceSays task main outcome source → IsOptOutcomeOf (Ok (Make task name main)) content outcome
source_agrees content task name main outcome source held says =
    file_agrees content name (SourceSays task main) outcome source held says (λ none. none)

pub read_counts : (task : Task) (given : List GivenRelation) (name : List ℕ) (outcome : OptOutcome) (text : List ℕ) (before now : ℕ)
    (failed_before failed_now : List ℕ) → SaysOf task given outcome text → KeepsFaults before now failed_before failed_now
    → CountsFiles (Ok (Do task given name)) outcome before now failed_before failed_now
read_counts task given name Done text before now failed_before failed_now says k = k
read_counts task given name Usage text before now failed_before failed_now says k = k
read_counts task given name FileFault text before now failed_before failed_now says k = absurd says
read_counts task given name (BadText fault) text before now failed_before failed_now says k = k
read_counts task given name (BadComponent fault) text before now failed_before failed_now says k = k
read_counts task given name (BadModule fault) text before now failed_before failed_now says k = k
read_counts task given name TooLong text before now failed_before failed_now says k = k
read_counts task given name (Refused refusal) text before now failed_before failed_now says k = k
read_counts task given name (NotConstructive stuck) text before now failed_before failed_now says k = k
read_counts task given name (Undecided cycle) text before now failed_before failed_now says k = k
read_counts task given name (TooManyNets cycle) text before now failed_before failed_now says k = k
read_counts task given name WriteFault text before now failed_before failed_now says k = k
read_counts task given name NoMemory text before now failed_before failed_now says k = k

pub source_read_counts : (task : Task) (name : List ℕ) (main : Option (List ℕ)) (outcome : OptOutcome) (source : List ℕ) (before now : ℕ)
    (failed_before failed_now : List ℕ) → SourceSays task main outcome source → KeepsFaults before now failed_before failed_now
    → CountsFiles (Ok (Make task name main)) outcome before now failed_before failed_now
source_read_counts task name main Done source before now failed_before failed_now says k = k
source_read_counts task name main Usage source before now failed_before failed_now says k = k
source_read_counts task name main FileFault source before now failed_before failed_now says k = absurd says
source_read_counts task name main (BadText fault) source before now failed_before failed_now says k = k
source_read_counts task name main (BadComponent fault) source before now failed_before failed_now says k = k
source_read_counts task name main (BadModule fault) source before now failed_before failed_now says k = k
source_read_counts task name main TooLong source before now failed_before failed_now says k = k
source_read_counts task name main (Refused refusal) source before now failed_before failed_now says k = k
source_read_counts task name main (NotConstructive stuck) source before now failed_before failed_now says k = k
source_read_counts task name main (Undecided cycle) source before now failed_before failed_now says k = k
source_read_counts task name main (TooManyNets cycle) source before now failed_before failed_now says k = k
source_read_counts task name main WriteFault source before now failed_before failed_now says k = k
source_read_counts task name main NoMemory source before now failed_before failed_now says k = k

answer_as : (task : Task) (P Q : List ℕ → Type 0) (s : SinkChange) (outcome : OptOutcome) → ((written : List ℕ) → P written → Q written)
    → LeavesAnswer task P s outcome → LeavesAnswer task Q s outcome
answer_as (Write form) P Q s outcome f l = texts.pieces_as P Q s (written_of outcome) f l
answer_as (Embed component layout) P Q s outcome f l = texts.text_as P Q s (written_of outcome) f l
answer_as (Reset options coding) P Q s outcome f l = texts.text_as P Q s (written_of outcome) f l
answer_as Check P Q s outcome f l = texts.text_as P Q s (written_of outcome) f l

pub read_out : (content : Content) (task : Task) (given : List GivenRelation) (name : List ℕ) (outcome : OptOutcome) (text : List ℕ) (s : SinkChange)
    → IsHeld content name text → LeavesAnswer task (IsAnswer task text given) s outcome → GainsOut (Ok (Do task given name)) content outcome s
read_out content task given name outcome text s held l =
    answer_as task (IsAnswer task text given) (IsTextOf task given name content) s outcome (λ written is. (text, held, is)) l

pub source_out : (content : Content) (task : Task) (name : List ℕ) (main : Option (List ℕ)) (outcome : OptOutcome) (source : List ℕ) (s : SinkChange)
    → IsHeld content name source → LeavesSourceAnswer task source main s outcome
    → GainsOut (Ok (Make task name main)) content outcome s
source_out content task name main outcome source s held l =
    answer_as task (IsSourceTextBy outcome task source main) (IsSourceTextOf outcome task name main content) s outcome
    (λ written is. (source, held, is)) l

source_speaks : (content : Content) (name : List ℕ) (outcome : OptOutcome) (source : List ℕ) → IsHeld content name source
    → SpeaksOf content name outcome source
source_speaks content name Done source held = tt
source_speaks content name Usage source held = tt
source_speaks content name FileFault source held = tt
source_speaks content name (BadText fault) source held = tt
source_speaks content name (BadComponent fault) source held = tt
source_speaks content name (BadModule fault) source held = tt
source_speaks content name TooLong source held = tt
source_speaks content name (Refused (refusing.Static fault)) source held = held
source_speaks content name (Refused (refusing.Cyclic cycle)) source held = tt
source_speaks content name (Refused (refusing.Limit limit)) source held = tt
source_speaks content name (Refused refusing.NoMemory) source held = tt
source_speaks content name (NotConstructive stuck) source held = tt
source_speaks content name (Undecided cycle) source held = tt
source_speaks content name (TooManyNets cycle) source held = tt
source_speaks content name WriteFault source held = tt
source_speaks content name NoMemory source held = tt

pub source_err : (progress : Bool) (content : Content) (name : List ℕ) (main : Option (List ℕ)) (outcome : OptOutcome) (source : List ℕ) (s : SinkChange)
    → IsHeld content name source → GainsAfter progress s (line_of (source_subject name main source) outcome)
    → GainsSourceErr progress name main content outcome s
source_err progress content name main outcome source s held gains =
    record { source = source; held = source_speaks content name outcome source held; gains = gains }

-- where nothing is optimized, nobody waits
pub none_waits : (progress : Bool) (s : SinkChange) (line : List ℕ) → GainsLine s.before s.after s.faults_before s.faults_now line
    → GainsAfter progress s line
none_waits progress s line gains = record { waits = false; wanted = λ waits. absurd (false≢true waits); gains = gains }

-- ---- a file that was not read

pub unread_agrees : (content : Content) (task : Task) (given : List GivenRelation) (name : List ℕ) (fault : unread.FileFault)
    → Reads content name TEXT_BYTES (Err fault) → IsOptOutcomeOf (Ok (Do task given name)) content (unread_outcome fault)
unread_agrees content task given name reading.Failed read = tt
unread_agrees content task given name reading.TooLong read = long_unread content name TEXT_BYTES read
unread_agrees content task given name reading.NoMemory read = some_bytes content name

pub source_unread_agrees : (content : Content) (task : Task) (name : List ℕ) (main : Option (List ℕ)) (fault : unread.FileFault)
    → Reads content name SOURCE_BYTES (Err fault) → IsOptOutcomeOf (Ok (Make task name main)) content (source_unread_outcome fault)
source_unread_agrees content task name main reading.Failed read = tt
source_unread_agrees content task name main reading.TooLong read = long_unread content name SOURCE_BYTES read
source_unread_agrees content task name main reading.NoMemory read = some_bytes content name

pub unread_counts : (task : Task) (given : List GivenRelation) (name : List ℕ) (fault : unread.FileFault) (before now : ℕ)
    (failed_before failed_now : List ℕ) → Counts before now failed_before failed_now name (Err fault)
    → CountsFiles (Ok (Do task given name)) (unread_outcome fault) before now failed_before failed_now
unread_counts task given name reading.Failed before now failed_before failed_now k = k
unread_counts task given name reading.TooLong before now failed_before failed_now k = k
unread_counts task given name reading.NoMemory before now failed_before failed_now k = k

pub source_unread_counts : (task : Task) (name : List ℕ) (main : Option (List ℕ)) (fault : unread.FileFault) (before now : ℕ)
    (failed_before failed_now : List ℕ) → Counts before now failed_before failed_now name (Err fault)
    → CountsFiles (Ok (Make task name main)) (source_unread_outcome fault) before now failed_before failed_now
source_unread_counts task name main reading.Failed before now failed_before failed_now k = k
source_unread_counts task name main reading.TooLong before now failed_before failed_now k = k
source_unread_counts task name main reading.NoMemory before now failed_before failed_now k = k

pub unread_out : (content : Content) (task : Task) (given : List GivenRelation) (name : List ℕ) (fault : unread.FileFault) (s : SinkChange)
    → Appends s.before s.after s.faults_before s.faults_now [] → GainsOut (Ok (Do task given name)) content (unread_outcome fault) s
unread_out content (Write form) given name reading.Failed s a = a
unread_out content (Write form) given name reading.TooLong s a = a
unread_out content (Write form) given name reading.NoMemory s a = inl a
unread_out content (Embed component layout) given name reading.Failed s a = a
unread_out content (Embed component layout) given name reading.TooLong s a = a
unread_out content (Embed component layout) given name reading.NoMemory s a = a
unread_out content (Reset options coding) given name reading.Failed s a = a
unread_out content (Reset options coding) given name reading.TooLong s a = a
unread_out content (Reset options coding) given name reading.NoMemory s a = a
unread_out content Check given name reading.Failed s a = a
unread_out content Check given name reading.TooLong s a = a
unread_out content Check given name reading.NoMemory s a = a

pub source_unread_out : (content : Content) (task : Task) (name : List ℕ) (main : Option (List ℕ)) (fault : unread.FileFault) (s : SinkChange)
    → Appends s.before s.after s.faults_before s.faults_now [] → GainsOut (Ok (Make task name main)) content (source_unread_outcome fault) s
source_unread_out content (Write form) name main reading.Failed s a = a
source_unread_out content (Write form) name main reading.TooLong s a = a
source_unread_out content (Write form) name main reading.NoMemory s a = inl a
source_unread_out content (Embed component layout) name main reading.Failed s a = a
source_unread_out content (Embed component layout) name main reading.TooLong s a = a
source_unread_out content (Embed component layout) name main reading.NoMemory s a = a
source_unread_out content (Reset options coding) name main reading.Failed s a = a
source_unread_out content (Reset options coding) name main reading.TooLong s a = a
source_unread_out content (Reset options coding) name main reading.NoMemory s a = a
source_unread_out content Check name main reading.Failed s a = a
source_unread_out content Check name main reading.TooLong s a = a
source_unread_out content Check name main reading.NoMemory s a = a

pub source_unread_err : (progress : Bool) (content : Content) (name : List ℕ) (main : Option (List ℕ)) (fault : unread.FileFault) (s : SinkChange)
    → GainsLine s.before s.after s.faults_before s.faults_now (line_of (source_subject name main []) (source_unread_outcome fault))
    → GainsSourceErr progress name main content (source_unread_outcome fault) s
source_unread_err progress content name main reading.Failed s gains = record { source = []; held = tt; gains = none_waits progress s _ gains }
source_unread_err progress content name main reading.TooLong s gains = record { source = []; held = tt; gains = none_waits progress s _ gains }
source_unread_err progress content name main reading.NoMemory s gains = record { source = []; held = tt; gains = none_waits progress s _ gains }

-- no request ends as words without a meaning do
pub no_usage : (request : Request) (content : Content) → IsOptOutcomeOf (Ok request) content Usage → ⊥
no_usage (Tell about) content a = a
no_usage (Do task given name) content a = a.2
no_usage (Make task name main) content a = a.2
