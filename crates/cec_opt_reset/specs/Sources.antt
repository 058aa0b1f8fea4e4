-- To believe: what it means that Verilog with a reset does what a kernel program means; and such texts of sources.
use Rattle.std.specs.Prelude.{◌≡◌, ◌==◌, ℕ, Bool, List, [], ◌∷◌, ◌++◌, length, map, Option, Some, unwrap_or}
use Rattle.std.specs.List.{AllByRecursion}
use Rattle.est_kernel.specs.Plain.{Program, given_count, given_names, outgoing_names}
use Rattle.est_kernel.specs.Reactions.{Answer, run_of}
use Rattle.net_ir.specs.Netlists.{Netlist}
use Rattle.vlog_text.specs.Machine.{given_inputs}
use Rattle.vlog_text.specs.Names.{paused_name}
use Rattle.vlog_text.specs.Written.{clock_name}
use Rattle.vlog_reset.specs.Machine.{Begins, ClockStep, HasWidth, IsEdgeRun, seen_by, step_items}
use Rattle.vlog_reset.specs.Options.{ModuleOptions}
use Rattle.vlog_reset.specs.Texts.{Describes}
use Rattle.vlog_reset.specs.Trees.{ResetModule, clock_of}
use Rattle.vlog_reset.specs.Written.{input_name, outgoing_name, written}
use Rattle.est_front.specs.Sources.{StandsFor}
use Rattle.cec_compile.specs.Meaning.{AreItems}
use Rattle.cec_compile.specs.Refusals.{KeepsGraphLimits}
use Rattle.cec_cycles.specs.Constructive.{IsConstructiveNetOf, StandsForConstructiveNet}
use Rattle.cec_opt_sources.specs.declared.light.Coding.{Coding}

-- What the outputs of a module show of an answer of the semantics: the outgoing signals, in declared order, and whether
-- the program pauses, which is code 1.
abbrev pub edge_row : Answer → List Bool
edge_row a = a.outputs ++ (a.code == 1) ∷ []

-- A text describes a module that keeps what the program means. It has the names and the reset that are asked for, an
-- input for each given signal and an output for each outgoing one, in declared order, and the output `paused`. Take any
-- edges of the clock and of the reset, and any values of the registers to begin with: there is a run. Of a run that
-- begins with a reset or at power-up, take the edges without a reset as events, and the resets. If the events meet the
-- program's relations, the reactions to them are constructive, and at each such edge the outputs show what the reaction
-- is.
pub record ResetTextKeeps (text : List ℕ) (o : ModuleOptions) (p : Program) : Type 0 where
  pub verilog : ResetModule
  pub describes : Describes text verilog
  pub name : verilog.design.name ≡ unwrap_or o.name p.name
  pub clock : clock_of verilog ≡ clock_name
  pub reset : verilog.reset ≡ o.reset
  pub manner : verilog.manner ≡ o.manner
  pub inputs : given_inputs verilog.design ≡ map (input_name o) (given_names p)
  pub outputs : verilog.design.outputs ≡ map (outgoing_name o) (outgoing_names p) ++ paused_name ∷ []
  pub runs : (registers : List Bool) (steps : List ClockStep)
      → length registers ≡ length verilog.design.registers → AllByRecursion (HasWidth (given_count p)) steps
      → (vs : List (List ℕ → Bool)) × IsEdgeRun verilog registers steps vs
  pub keeps : (registers : List Bool) (steps : List ClockStep) (vs : List (List ℕ → Bool))
      → Begins verilog registers steps → AreItems p (step_items o.manner steps) → IsEdgeRun verilog registers steps vs
      → (answers : List Answer) × (run_of p (step_items o.manner steps) ≡ Some answers)
      × (seen_by (λ v. map v verilog.design.outputs) o.manner steps vs ≡ map edge_row answers)

-- The bytes stand for a program whose graph keeps the limits; its dependencies may have a cycle. The text keeps what
-- the program means. It is the text of the source's constructive netlist, which keeps that too. Where the dependencies
-- have no cycle, the coding says which one it is.
pub record StandsForReset (text : List ℕ) (main : Option (List ℕ)) (coding : Coding) (o : ModuleOptions)
    (reset : List ℕ) : Type 0 where
  pub program : Program
  pub source : StandsFor text main program
  pub limits : KeepsGraphLimits program
  pub keeps : ResetTextKeeps reset o program
  pub net : Netlist
  pub stands : StandsForConstructiveNet text main net
  pub made : IsConstructiveNetOf coding text main net
  pub spelled : reset ≡ written o net
