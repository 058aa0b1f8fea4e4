-- To believe: what it means that a text is run over a trace by its own meaning, and that a machine shows a netlist.
use Rattle.std.specs.Prelude.{◌≡◌, ℕ, Bool, if◌then◌else◌, List, [], length, map, Result}
use Rattle.base_types.specs.Items.{Item, EachEvent}
use Rattle.base_types.specs.SinkChanges.{SinkChange}
use Rattle.net_ir.specs.Netlists.{Netlist}
use Rattle.net_ir.specs.Runs.{Shown, net_run}
use Rattle.run_trace_io.specs.Answers.{beginning}
use Rattle.run_trace_io.specs.declared.lines.Word.{Word}
use Rattle.run_trace_io.specs.declared.lines.Word.TheVariants.{Paused, Ended}
use Rattle.run_over_traces.specs.declared.running.RunFault.{RunFault}
use Rattle.run_over_traces.specs.Machines.{ShownAnswer, Brings, answer_lines}
use Rattle.run_over_traces.specs.Running.{RunsTrace}

-- The text has a reading in a language, a plain program, which shows answers to the items of the trace by its own names
-- and without relations: their lines are written.
pub record RunsIn {P : Type 0} (reads : List ℕ → P → Type 0) (given outgoing : P → List (List ℕ))
    (shows : P → List Item → List ShownAnswer → Type 0) (text trace : List ℕ) (s : SinkChange)
    (result : Result (Unit {0}) RunFault) : Type 0 where
  pub program : P
  pub read : reads text program
  pub ran : RunsTrace (Brings shows (outgoing program) program) (beginning trace (given program) []) s result

-- the word for whether a program pauses
abbrev pub word_of : Bool → Word
word_of paused = if paused then Paused else Ended

-- what a net shows in an instant, as an answer
abbrev pub shown_answer : Shown → ShownAnswer
shown_answer shown = record { present = shown.outputs; word = word_of shown.paused }

-- the text is the lines of what the net shows over the items
abbrev pub ShowsNet : List (List ℕ) → Netlist → List Item → List ℕ → Type 0
ShowsNet names net items text = text ≡ answer_lines names (map shown_answer (net_run net items))

-- what a machine shows to items with a value for each input of a net is what the net shows
pub record IsOfNet {S : Type 0} (shows : S → List Item → List ShownAnswer → Type 0) (s : S) (net : Netlist)
    : Type 0 where
  pub told : (items : List Item) (answers : List ShownAnswer)
      → EachEvent (λ event. length event ≡ length net.inputs) items → shows s items answers
      → answers ≡ map shown_answer (net_run net items)

-- what a machine shows is what a plain program shows
pub record IsOfProgram {S P : Type 0} (shows : S → List Item → List ShownAnswer → Type 0)
    (program_shows : P → List Item → List ShownAnswer → Type 0) (s : S) (p : P) : Type 0 where
  pub told : (items : List Item) (answers : List ShownAnswer) → shows s items answers → program_shows p items answers
