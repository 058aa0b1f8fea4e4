-- To believe: what a command asks of the files that it reads, so that it refuses nothing.
use Rattle.std.specs.Prelude.{◌≡◌, ℕ, ◌≤◌, ⊤, Bool, List, [], ◌∷◌, ◌++◌, length, Option, None, Some}
use Rattle.base_types.specs.declared.bounds.TheConstants.Limits.{TRACE_BYTES}
use Rattle.base_types.specs.Items.{Item, Event}
use Rattle.base_types.specs.Relations.{Relation}
use Rattle.est_gen.specs.Sources.{source_text}
use Rattle.est_kernel.specs.Plain.{given_names}
use Rattle.est_kernel.specs.Reactions.{Answer, run_of}
use Rattle.run_trace_io.specs.Answers.{IsTrace, beginning}
use Rattle.run_over_traces.specs.Running.{IsTraceFront}
use Rattle.csub_run.specs.ProgramAnswers.{bare_inputs}
use Rattle.cec_words.specs.declared.asked.Via.{Via}
use Rattle.cec_words.specs.declared.asked.Via.TheVariants.{Blif, C, Guard, Verilog}
use Rattle.csub_guard_run.specs.ProgramAnswers as guardeds
use Rattle.vlog_run.specs.ModuleAnswers as modules
use Rattle.cec_compile.specs.declared.forms.TextForm.{TextForm}
use Rattle.cec_commands.specs.ExecTexts.{IsRunnable}
use Rattle.cec_commands.specs.Jobs.{Request, Help, Make, Run, RunTri, Exec, Generate, Load}
use Rattle.cec_compile.specs.Sources.{IsSource, WritesLongText}
use Rattle.cec_commands.specs.TriRuns.{IsGraphSource}

-- The trace keeps its limit, and no instant of it is refused, by the names of the inputs and by these relations.
pub record IsWholeTrace (trace : List ℕ) (inputs : List (List ℕ)) (relations : List Relation) : Type 0 where
  pub short : length trace ≤ TRACE_BYTES
  pub items : List Item
  pub whole : IsTrace (beginning trace inputs relations) items None

-- The source compiles, no text of this form that is written of it is too long to be read, and the trace is one of it.
pub record RunsToEnd (via : TextForm) (main : Option (List ℕ)) (bytes trace : List ℕ) : Type 0 where
  pub source : IsSource main bytes
  pub readable : WritesLongText via main bytes → ⊥
  pub whole : IsWholeTrace trace (given_names source.program) source.program.relations

-- The source has a graph, the trace is one of it, and in each instant of it the program is constructive.
pub record ReactsToEnd (main : Option (List ℕ)) (bytes trace : List ℕ) : Type 0 where
  pub source : IsGraphSource main bytes
  pub whole : IsWholeTrace trace (given_names source.program) source.program.relations
  pub answers : List Answer
  pub constructive : run_of source.program whole.items ≡ Some answers

-- The source has a graph, and up to an event of the trace nothing is refused; the program is constructive in the
-- instants before that event, and not in its own.
pub record ComesToStop (main : Option (List ℕ)) (bytes trace : List ℕ) : Type 0 where
  pub source : IsGraphSource main bytes
  pub short : length trace ≤ TRACE_BYTES
  pub items : List Item
  pub event : List Bool
  pub front : IsTraceFront (beginning trace (given_names source.program) source.program.relations)
      (items ++ Event event ∷ [])
  pub answers : List Answer
  pub constructive : run_of source.program items ≡ Some answers
  pub stops : run_of source.program (items ++ Event event ∷ []) ≡ None

-- the names of the inputs of a text that can be run
abbrev pub inputs_by : (via : Via) (bytes : List ℕ) → IsRunnable via bytes → List (List ℕ)
inputs_by Blif bytes text = text.program.inputs
inputs_by C bytes text = bare_inputs text.program
inputs_by Guard bytes text = guardeds.bare_inputs text.program
inputs_by Verilog bytes text = modules.bare_inputs text.program

-- The text can be run, and the trace is one of it.
pub record ExecutesToEnd (via : Via) (bytes trace : List ℕ) : Type 0 where
  pub text : IsRunnable via bytes
  pub whole : IsWholeTrace trace (inputs_by via bytes text) []

-- a request, and files with these bytes, of which nothing is refused
abbrev pub IsAccepted : Request → (List ℕ → List ℕ) → Type 0
IsAccepted Help held = ⊤
IsAccepted (Make task job) held = IsSource job.main (held job.name)
IsAccepted (Run via job trace) held = RunsToEnd via job.main (held job.name) (held trace)
IsAccepted (RunTri job trace) held = ReactsToEnd job.main (held job.name) (held trace)
IsAccepted (Exec via text trace) held = ExecutesToEnd via (held text) (held trace)
IsAccepted (Generate start branches) held = ⊤
IsAccepted (Load start branches instants) held = IsSource None (source_text start branches)
