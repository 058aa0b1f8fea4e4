-- Inner: the plain form of what a line may speak of, the outcome where a file is not read, and what a trace's file
-- tells.
use Rattle.std.specs.Prelude.{◌≡◌, ℕ, ⊤, List}
use Rattle.base_types.specs.Faults.{Rose}
use Rattle.base_types.specs.declared.files.reading.FileFault.{FileFault}
use Rattle.base_types.specs.declared.files.reading.FileFault.TheVariants as reading
use Rattle.run_over_traces.specs.declared.running.RunFault.{RunFault}
use Rattle.run_over_traces.specs.declared.running.RunFault.TheVariants as runs
use Rattle.cec_commands.specs.declared.lines.Subject as lines
use Rattle.cec_commands.specs.declared.outcome.Outcome.{Outcome}
use Rattle.cec_commands.specs.declared.outcome.Outcome.TheVariants.{Done, FileFault as Unread, Trace, Limit}
use Rattle.cec_commands.specs.declared.outcome.Outcome.TheVariants.{WriteFault, NoMemory}
use Rattle.cec_words.specs.declared.common.Which.{Which}
use Rattle.cec_words.specs.declared.common.Which.TheVariants.{First, Second}
use Rattle.cec_compile.specs.declared.refusal.Limit as bounds
use Rattle.cec_compile.specs.declared.refusal.Limit.TheVariants as limits
use Rattle.cec_text_io.specs.Contents.{Content, Holds}
use Rattle.cec_commands.specs.Lines.{Subject}
use Rattle.cec_commands.specs.Outcomes.{IsLongTrace}
use Rattle.std.specs.Prelude.{Result, Ok, Err}

abbrev pub plain_subject : lines.Subject → Subject
plain_subject x = record { name = x.name.now; trace = x.trace.now; main = x.main.now; source = x.source.now }

-- the outcome where a file was not read
abbrev pub unread_outcome : Which → bounds.Limit → FileFault → Outcome
unread_outcome file limit reading.Failed = Unread file
unread_outcome file limit reading.TooLong = Limit limit
unread_outcome file limit reading.NoMemory = NoMemory

-- the outcome of a run over a trace
abbrev pub run_outcome : Result (Unit {0}) RunFault → Outcome
run_outcome (Ok done) = Done
run_outcome (Err (runs.Trace fault)) = Trace fault
run_outcome (Err runs.Write) = WriteFault
run_outcome (Err runs.NoMemory) = NoMemory

-- a read of the trace is the only one that may have failed
abbrev pub CountsTrace : List ℕ → Outcome → ℕ → ℕ → List ℕ → List ℕ → Type 0
CountsTrace trace (Unread First) before now failed_before failed_now = ⊥
CountsTrace trace (Unread Second) before now failed_before failed_now = Rose before now × (failed_now ≡ trace)
CountsTrace trace others before now failed_before failed_now = (now ≡ before) × (failed_now ≡ failed_before)

-- a trace that is said to be too long is
abbrev pub LongTrace : Content → List ℕ → Outcome → Type 0
LongTrace content trace (Limit limits.Trace) = Holds content trace IsLongTrace
LongTrace content trace others = ⊤
