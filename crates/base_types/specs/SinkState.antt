-- To believe: sinks in memory: what such a sink keeps, and what it tells.
use Rattle.std.specs.Prelude.{◌≡◌, ℕ, ◌+◌, ◌-◌, ◌^◌, ◌<◌, ◌≤◌, min, if◌then◌else◌, ◌==◌, List, ◌++◌, length, take}
use Rattle.std.specs.Prelude.{Option, None, Some, Contains, Result, Ok, Err}
use Rattle.base_types.specs.Faults.{one_more}
use Rattle.base_types.specs.declared.sinks.writing.SinkFault.{SinkFault}
use Rattle.base_types.specs.declared.sinks.writing.SinkFault.TheVariants.{Failed}

-- the first `room` bytes of all that came, and how many came beyond the room, a count that stays
-- at the greatest u64
pub record Kept : Type 0 where
  pub bytes : List ℕ
  pub room : ℕ
  pub beyond : ℕ

-- the bytes are reported as long as no more than the room came
abbrev pub told_of : Kept → Option (List ℕ)
told_of k = if k.beyond == 0 then Some k.bytes else None

-- what is kept after one more piece
abbrev pub after_piece : Kept → List ℕ → Kept
after_piece k piece = record {
  bytes = take k.room (k.bytes ++ piece);
  room = k.room;
  beyond = min (k.beyond + (length k.bytes + length piece - k.room)) (2 ^ 64 - 1);
}

-- a sink in memory that fails at chosen calls: what it keeps, the numbers of the calls that fail,
-- how many calls there were, and how many of them failed
pub record ListState : Type 0 where
  pub kept : Kept
  pub failing : List ℕ
  pub calls : ℕ
  pub faults : ℕ

-- the answer of the next call: it fails exactly where its number is in the list
abbrev pub AnswersWrite : ListState → Result (Unit {0}) SinkFault → Type 0
AnswersWrite s (Ok done) = Contains s.failing (one_more s.calls) → ⊥
AnswersWrite s (Err Failed) = Contains s.failing (one_more s.calls)

-- the state after a call: it is counted; the piece was taken whole, or the failure was counted
abbrev pub after_write : ListState → List ℕ → Result (Unit {0}) SinkFault → ListState
after_write s piece (Ok done) = record s { kept = after_piece s.kept piece; calls = one_more s.calls }
after_write s piece (Err Failed) = record s { calls = one_more s.calls; faults = one_more s.faults }

-- the bytes lie within the room, for which there is memory, and fill it once more came
pub record IsKeptWithin (len capacity room beyond : ℕ) : Type 0 where
  pub within : len ≤ room
  pub reserved : room ≤ capacity
  pub full : 0 < beyond → len ≡ room
