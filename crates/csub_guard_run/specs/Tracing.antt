-- Inner: the program of a net's text, and what came to the sink of the line of a count.
use Rattle.std.specs.Prelude.{◌≡◌, ℕ, List, Result, Ok, Err}
use Rattle.base_types.specs.SinkChanges.{SinkChange, IsUntouched}
use Rattle.base_types.specs.Writing.{Appends, Stops}
use Rattle.net_ir.specs.Netlists.{Netlist}
use Rattle.csub_guard.specs.Trees.{Program}
use Rattle.csub_guard_run.specs.ProgramAnswers.{count_line}
use Rattle.csub_guard_run.specs.Texts.{Means}
use Rattle.run_over_traces.specs.declared.running.RunFault.{RunFault}
use Rattle.run_over_traces.specs.declared.running.RunFault.TheVariants.{Trace, Write, NoMemory}

-- the program by which a text means the net
pub record IsProgramOf (text : List ℕ) (net : Netlist) (program : Program) : Type 0 where
  pub means : Means text net
  pub is : program ≡ means.program

-- what came to the sink of the line of a count
abbrev pub CountCame : ℕ → SinkChange → Result (Unit {0}) RunFault → Type 0
CountCame n s (Ok done) = Appends s.before s.after s.faults_before s.faults_now (count_line n)
CountCame n s (Err (Trace fault)) = ⊥
CountCame n s (Err Write) = Stops s.before s.after s.faults_before s.faults_now (count_line n)
CountCame n s (Err NoMemory) = IsUntouched s
