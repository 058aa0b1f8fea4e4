-- To believe: what `run` and `exec` leave in `out`.
use Rattle.std.specs.Prelude.{◌≡◌, ℕ, ◌≤◌, ◌==◌, ◌⊎◌, List, map, length, Option, Some, Result, Ok, Err}
use Rattle.base_types.specs.declared.bounds.TheConstants.Limits.{SOURCE_BYTES}
use Rattle.base_types.specs.Items.{Item}
use Rattle.est_kernel.specs.Plain.{Program, given_names, outgoing_names}
use Rattle.est_kernel.specs.Reactions.{Answer, run_of}
use Rattle.csub_guard.specs.Texts.{Describes}
use Rattle.csub_guard.specs.Trees as guarded
use Rattle.csub_guard_run.specs.CountedRuns.{RunsCounted}
use Rattle.csub_guard_run.specs.ProgramAnswers.{last_line}
use Rattle.run_trace_io.specs.Answers.{beginning}
use Rattle.run_trace_io.specs.Traces.{Reading}
use Rattle.run_over_traces.specs.declared.running.RunFault.{RunFault}
use Rattle.run_over_traces.specs.declared.running.RunFault.TheVariants as runs
use Rattle.run_over_traces.specs.Languages.{word_of}
use Rattle.base_types.specs.SinkChanges.{IsUntouched}
use Rattle.run_over_traces.specs.Machines as machines
use Rattle.base_types.specs.SinkChanges.{SinkChange}
use Rattle.run_over_traces.specs.Running.{RunsTrace}
use Rattle.est_front.specs.Sources.{StandsFor}
use Rattle.cec_commands.specs.declared.outcome.Outcome.{Outcome}
use Rattle.cec_commands.specs.declared.outcome.Outcome.TheVariants.{Done, Trace, WriteFault, NoMemory}
use Rattle.cec_compile.specs.GuardedTexts.{IsGuardedOf}
use Rattle.cec_compile.specs.Refusals.{Compiles}
use Rattle.cec_compile.specs.declared.forms.TextForm.{TextForm}
use Rattle.cec_compile.specs.declared.forms.TextForm.TheVariants as forms

-- what a line shows of an answer of the semantics: code 1 is a pause
abbrev pub line_answer : Answer → machines.ShownAnswer
line_answer a = record { present = a.outputs; word = word_of (a.code == 1) }

-- The run of the program over the items is constructive in each instant, and the text is the lines of its answers.
pub record ShowsRun (p : Program) (items : List Item) (text : List ℕ) : Type 0 where
  pub answers : List Answer
  pub constructive : run_of p items ≡ Some answers
  pub lines : text ≡ machines.answer_lines (outgoing_names p) (map line_answer answers)

-- The same by a guarded text that is made of the bytes, whose calls are counted: where the whole trace was read, after
-- the lines stands that of how many assignments all calls of the program ran that the text describes.
pub record CountsSource (main : Option (List ℕ)) (bytes : List ℕ) (p : Program) (trace : Reading) (s : SinkChange)
    (result : Result (Unit {0}) RunFault) : Type 0 where
  pub text : List ℕ
  pub made : IsGuardedOf bytes main text
  pub program : guarded.Program
  pub describes : Describes text program
  pub ran : RunsCounted (ShowsRun p) (last_line program) trace s result

-- how a run over a trace ends, by the form of the text that is run
abbrev pub RunsVia : TextForm → Option (List ℕ) → List ℕ → Program → Reading → SinkChange
    → Result (Unit {0}) RunFault → Type 0
RunsVia forms.Guarded main bytes p trace s result = CountsSource main bytes p trace s result
RunsVia others main bytes p trace s result = RunsTrace (ShowsRun p) trace s result

-- The compiler-correctness theorem for `run`: the bytes stand for a program that compiles, and what the trace brings
-- about is the lines of the program's run over its items.
pub record RunsSource (via : TextForm) (main : Option (List ℕ)) (bytes trace : List ℕ) (s : SinkChange)
    (result : Result (Unit {0}) RunFault) : Type 0 where
  pub program : Program
  pub short : length bytes ≤ SOURCE_BYTES
  pub source : StandsFor bytes main program
  pub compiles : Compiles program
  pub ran : RunsVia via main bytes program (beginning trace (given_names program) program.relations) s result

-- What a run over a trace leaves in `out`, by how it ended, where `Ran` says what is left by each end: the text of all
-- items of the trace; after its first fault, that of the items before; after a failed write or because memory ran out a
-- prefix.
-- Where nothing was run, `out` is as it was.
abbrev pub LeavesRun : (Result (Unit {0}) RunFault → Type 0) → SinkChange → Outcome → Type 0
LeavesRun Ran s Done = Ran (Ok tt)
LeavesRun Ran s (Trace fault) = Ran (Err (runs.Trace fault))
LeavesRun Ran s WriteFault = Ran (Err runs.Write)
LeavesRun Ran s NoMemory = IsUntouched s ⊎ Ran (Err runs.NoMemory)
LeavesRun Ran s others = IsUntouched s
