-- To believe: how a run of a guarded text over a trace ends. Where the whole trace was read, the number of assignments
-- that all calls ran is in a line after the others.
use Rattle.std.specs.Prelude.{ℕ, ◌++◌, ◌⊎◌, List, [], None, Result, Ok, Err}
use Rattle.base_types.specs.Items.{Item}
use Rattle.base_types.specs.SinkChanges.{SinkChange}
use Rattle.base_types.specs.Writing.{Appends, Stops}
use Rattle.csub_guard.specs.Texts.{Describes}
use Rattle.csub_guard.specs.Trees.{Program}
use Rattle.csub_guard_read.specs.Faults.{ReadsAs}
use Rattle.csub_guard_run.specs.ProgramAnswers.{bare_inputs, bare_outputs, program_shows, last_line}
use Rattle.net_ir.specs.Netlists.{Netlist}
use Rattle.run_trace_io.specs.Answers.{IsTrace, beginning}
use Rattle.run_trace_io.specs.Traces.{Reading}
use Rattle.run_over_traces.specs.Languages.{ShowsNet}
use Rattle.run_over_traces.specs.Machines.{Brings}
use Rattle.run_over_traces.specs.Running.{RunsTrace}
use Rattle.run_over_traces.specs.declared.running.RunFault.{RunFault}
use Rattle.run_over_traces.specs.declared.running.RunFault.TheVariants.{Trace, Write, NoMemory}

-- The whole trace was read: the sink gained the text that its items bring about, and their last line after it, or,
-- where a write failed there, a prefix of that.
pub record ReadsWholeTrace (Writes : List Item → List ℕ → Type 0) (last : List Item → List ℕ) (trace : Reading)
    (Gained : List ℕ → Type 0) : Type 0 where
  pub items : List Item
  pub text : List ℕ
  pub whole : IsTrace trace items None
  pub writes : Writes items text
  pub gained : Gained (text ++ last items)

-- How a run ends that is `RunsTrace` except for the last line, which comes only where the whole trace was read.
abbrev pub RunsCounted : (List Item → List ℕ → Type 0) → (List Item → List ℕ) → Reading → SinkChange
    → Result (Unit {0}) RunFault → Type 0
RunsCounted Writes last trace s (Ok done) =
    ReadsWholeTrace Writes last trace (Appends s.before s.after s.faults_before s.faults_now)
RunsCounted Writes last trace s (Err (Trace fault)) = RunsTrace Writes trace s (Err (Trace fault))
RunsCounted Writes last trace s (Err Write) =
    RunsTrace Writes trace s (Err Write)
    ⊎ ReadsWholeTrace Writes last trace (Stops s.before s.after s.faults_before s.faults_now)
RunsCounted Writes last trace s (Err NoMemory) = RunsTrace Writes trace s (Err NoMemory)

-- a program is run over a trace by its own names and without relations
abbrev pub CountsProgram : Program → List ℕ → SinkChange → Result (Unit {0}) RunFault → Type 0
CountsProgram p trace s result =
    RunsCounted (Brings program_shows (bare_outputs p) p) (last_line p) (beginning trace (bare_inputs p) []) s result

-- the text has a reading, which is run over the trace
pub record CountsIn (text trace : List ℕ) (s : SinkChange) (result : Result (Unit {0}) RunFault) : Type 0 where
  pub program : Program
  pub read : ReadsAs text program
  pub ran : CountsProgram program trace s result

-- the text describes a program, over the trace is written what the net shows, and the last line is that of the program
pub record CountsNet (text : List ℕ) (names : List (List ℕ)) (net : Netlist) (trace : Reading) (s : SinkChange)
    (result : Result (Unit {0}) RunFault) : Type 0 where
  pub program : Program
  pub describes : Describes text program
  pub ran : RunsCounted (ShowsNet names net) (last_line program) trace s result
