-- To believe: what outputs tell where a last one of a given name says whether the program pauses. That one is not
-- listed, and its value gives the word; where there is none, there is no word.
use Rattle.std.specs.Prelude.{ℕ, ◌-◌, Bool, false, if◌then◌else◌, List, [], length, take, slice_index_or}
use Rattle.base_types.specs.Names.{is_same_name}
use Rattle.run_trace_io.specs.declared.lines.Word.TheVariants.{Bare}
use Rattle.run_over_traces.specs.Languages.{word_of}
use Rattle.run_over_traces.specs.Machines.{ShownAnswer}

-- whether the last one has the name
abbrev pub tells_pause : List ℕ → List (List ℕ) → Bool
tells_pause paused outputs = is_same_name paused (slice_index_or outputs (length outputs - 1) [])

-- how many outputs are listed
abbrev pub listed_count : List ℕ → List (List ℕ) → ℕ
listed_count paused outputs = if tells_pause paused outputs then length outputs - 1 else length outputs

-- what is shown where the outputs have these values
abbrev pub answer_of : List ℕ → List (List ℕ) → List Bool → ShownAnswer
answer_of paused outputs values = record {
  present = take (listed_count paused outputs) values;
  word = if tells_pause paused outputs then word_of (slice_index_or values (length outputs - 1) false) else Bare;
}
