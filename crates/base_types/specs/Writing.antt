-- To believe: what a write to a sink appends, against the bytes that the sink tells.
use Rattle.std.specs.Prelude.{◌≡◌, ℕ, List, [], ◌++◌, take, Option, None, Some, Result, Ok, Err}
use Rattle.std.specs.Io.KnownBytes as known
use Rattle.base_types.specs.Faults.{Rose}
use Rattle.base_types.specs.declared.sinks.writing.SinkFault.{SinkFault}

-- the text was appended, where the bytes are reported before and after; what was not told stays untold
abbrev pub Gains : Option (List ℕ) → Option (List ℕ) → List ℕ → Type 0
Gains None None text = Unit {0}
Gains None (Some after) text = ⊥
Gains (Some before) None text = Unit {0}
Gains (Some before) (Some after) text = after ≡ before ++ text

-- a prefix of the text was appended
pub record GainsFront (before after : Option (List ℕ)) (text : List ℕ) : Type 0 where
  pub taken : ℕ
  pub gains : Gains before after (take taken text)

-- a failure raises the count, and a prefix of the text was appended
pub record Stops (before after : Option (List ℕ)) (faults_before faults_now : ℕ) (text : List ℕ) : Type 0 where
  pub faults : Rose faults_before faults_now
  pub front : GainsFront before after text

-- the whole text was appended, and no fault was counted
pub record Appends (before after : Option (List ℕ)) (faults_before faults_now : ℕ) (text : List ℕ) : Type 0 where
  pub faults : faults_now ≡ faults_before
  pub whole : Gains before after text

-- what a write of the text did
abbrev pub Wrote : Option (List ℕ) → Option (List ℕ) → ℕ → ℕ → List ℕ → Result (Unit {0}) SinkFault → Type 0
Wrote before after faults_before faults_now text (Ok done) = Appends before after faults_before faults_now text
Wrote before after faults_before faults_now text (Err fault) = Stops before after faults_before faults_now text

-- what a contract sees of a sink over a writer: the bytes that the writer holds, where it tells them, and how
-- many faults there were
pub record WriterState : Type 0 where
  pub contents : Option (List ℕ)
  pub faults : ℕ

-- What a writer holds after a write of a piece, where it tells that: the whole piece more, or a prefix of it.
abbrev pub HoldsMore : Option (List ℕ) → Option (List ℕ) → List ℕ → Result (Unit {0}) SinkFault → Type 0
HoldsMore before after piece (Ok done) = known.Appends before after piece
HoldsMore before after piece (Err fault) = (taken : ℕ) × known.Appends before after (take taken piece)

-- what a writer holds after it took so much of a piece, or nothing
abbrev pub AppendsSome : Option (List ℕ) → Option (List ℕ) → List ℕ → Option ℕ → Type 0
AppendsSome before after piece None = known.Appends before after []
AppendsSome before after piece (Some taken) = known.Appends before after (take taken piece)
