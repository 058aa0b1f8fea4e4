-- What the outcome of a command says of the text that it wrote.
use Rattle.std.proofs.Common.{ℕ, List, [], Option, Some, inl}
use Rattle.base_types.specs.declared.files.reading.FileFault.{FileFault}
use Rattle.base_types.specs.declared.files.reading.FileFault.TheVariants as reading
use Rattle.base_types.specs.Faults.{Rose}
use Rattle.base_types.specs.Writing.{Appends}
use Rattle.base_types.specs.SinkChanges.{SinkChange}
use Rattle.cec_text_io.proofs.Pieces as texts
use Rattle.cec_text_io.specs.Writings as endings
use Rattle.cec_text_io.specs.declared.writing.Written.{Written}
use Rattle.cec_text_io.specs.declared.writing.Written.TheVariants as ends
use Rattle.cec_commands.specs.declared.jobs.Task.{Task}
use Rattle.cec_commands.specs.declared.jobs.Task.TheVariants.{Text, Grc, Check}
use Rattle.cec_commands.specs.declared.outcome.Outcome.{Outcome}
use Rattle.cec_commands.specs.declared.outcome.Outcome.TheVariants.{Done, Usage, FileFault as Unread, Static, Cyclic, Trace, BadText, Limit, WriteFault}
use Rattle.cec_commands.specs.declared.outcome.Outcome.TheVariants.{NoMemory}
use Rattle.cec_commands.specs.declared.outcome.Outcome.TheVariants.{NotConstructive}
use Rattle.cec_words.specs.declared.common.Which.TheVariants.{First}
use Rattle.cec_compile.specs.declared.refusal.Limit.TheVariants as limits
use Rattle.cec_compile.specs.declared.refusal.Refusal as refused
use Rattle.cec_compile.specs.declared.refusal.Refusal.TheVariants as refusals
use Rattle.cec_commands.specs.Outcomes.{IsWriting, MakesOn, OutcomeLeavesText, OutcomeLeavesPieces, LeavesAnswer, written_of}
use Rattle.cec_compile.specs.Sources.{IsSource}
use Rattle.cec_commands.specs.Statuses.{outcome_of, written_outcome}
use Rattle.cec_commands.specs.Subjects.{unread_outcome}

-- ---- what a text is

pub text_as : (P Q : List ℕ → Type 0) (s : SinkChange) (outcome : Outcome) → ((text : List ℕ) → P text → Q text)
    → OutcomeLeavesText P s outcome → OutcomeLeavesText Q s outcome
text_as P Q s outcome f l = texts.text_as P Q s (written_of outcome) f l

pub pieces_as : (P Q : List ℕ → Type 0) (s : SinkChange) (outcome : Outcome) → ((text : List ℕ) → P text → Q text) → OutcomeLeavesPieces P s outcome
    → OutcomeLeavesPieces Q s outcome
pieces_as P Q s outcome f l = texts.pieces_as P Q s (written_of outcome) f l

pub answer_as : (task : Task) (P Q : List ℕ → Type 0) (s : SinkChange) (outcome : Outcome) → ((text : List ℕ) → P text → Q text) → LeavesAnswer task P s outcome
    → LeavesAnswer task Q s outcome
answer_as (Text form) P Q s outcome f l = pieces_as P Q s outcome f l
answer_as Grc P Q s outcome f l = text_as P Q s outcome f l
answer_as Check P Q s outcome f l = text_as P Q s outcome f l

-- a write that failed raised the count
pub answer_rose : (task : Task) (P : List ℕ → Type 0) (s : SinkChange) → LeavesAnswer task P s WriteFault → Rose s.faults_before s.faults_now
answer_rose (Text form) P s l = l.2.faults
answer_rose Grc P s l = l.2.faults
answer_rose Check P s l = l.2.faults

-- ---- where nothing is written

pub refused_pieces : (P : List ℕ → Type 0) (refusal : refused.Refusal) (s : SinkChange) → Appends s.before s.after s.faults_before s.faults_now []
    → OutcomeLeavesPieces P s (outcome_of refusal)
refused_pieces P (refusals.Static fault) s a = a
refused_pieces P (refusals.Cyclic cycle) s a = a
refused_pieces P (refusals.Limit quantity) s a = a
refused_pieces P refusals.NoMemory s a = inl a

unread_pieces : (P : List ℕ → Type 0) (fault : FileFault) (s : SinkChange) → Appends s.before s.after s.faults_before s.faults_now []
    → OutcomeLeavesPieces P s (unread_outcome First limits.Source fault)
unread_pieces P reading.Failed s a = a
unread_pieces P reading.TooLong s a = a
unread_pieces P reading.NoMemory s a = inl a

unread_text : (P : List ℕ → Type 0) (fault : FileFault) (s : SinkChange) → Appends s.before s.after s.faults_before s.faults_now []
    → OutcomeLeavesText P s (unread_outcome First limits.Source fault)
unread_text P reading.Failed s a = a
unread_text P reading.TooLong s a = a
unread_text P reading.NoMemory s a = a

pub unread_answer : (task : Task) (P : List ℕ → Type 0) (fault : FileFault) (s : SinkChange) → Appends s.before s.after s.faults_before s.faults_now []
    → LeavesAnswer task P s (unread_outcome First limits.Source fault)
unread_answer (Text form) P fault s a = unread_pieces P fault s a
unread_answer Grc P fault s a = unread_text P fault s a
unread_answer Check P fault s a = unread_text P fault s a

-- ---- how a writing ended

pub written_text : (P : List ℕ → Type 0) (s : SinkChange) (ended : Written) → endings.LeavesText P s (Some ended)
    → OutcomeLeavesText P s (written_outcome ended)
written_text P s ends.Done l = l
written_text P s ends.WriteFault l = l
written_text P s ends.NoMemory l = l

pub written_pieces : (P : List ℕ → Type 0) (s : SinkChange) (ended : Written) → endings.LeavesPieces P s (Some ended)
    → OutcomeLeavesPieces P s (written_outcome ended)
written_pieces P s ends.Done l = l
written_pieces P s ends.WriteFault l = l
written_pieces P s ends.NoMemory l = l

pub written_writes : (ended : Written) → IsWriting (written_outcome ended)
written_writes ends.Done = tt
written_writes ends.WriteFault = tt
written_writes ends.NoMemory = tt

-- how the text of a source that compiles is written
pub writing_makes : (main : Option (List ℕ)) (outcome : Outcome) (bytes : List ℕ) → IsWriting outcome → IsSource main bytes → MakesOn main outcome bytes
writing_makes main Done bytes w is = is
writing_makes main WriteFault bytes w is = is
writing_makes main NoMemory bytes w is = tt
writing_makes main _ bytes w is = absurd w
