-- To believe: the meaning of a module, its machine over items. A valuation says of every name whether it is true, and
-- a run is a list of valuations, one for each event. An event is a rising edge of the clock; a reset, which the text
-- does not have, begins a new run.
use Rattle.std.specs.Prelude.{◌≡◌, ℕ, Bool, List, ◌++◌, map, drop}
use Rattle.std.specs.List.{AllByRecursion}
use Rattle.base_machines.specs.Machines.{Machine}
use Rattle.net_expressions.specs.Values.{value_of}
use Rattle.vlog_text.specs.Trees.{VerilogModule}

-- the inputs in addition to the clock, which get a value at each event
abbrev pub given_inputs : VerilogModule → List (List ℕ)
given_inputs design = drop 1 design.inputs

-- An instant with these values of the registers and these inputs: every assignment is met, where `&`, `|` and `~` are
-- and, or and not.
pub record IsInstant (design : VerilogModule) (registers inputs : List Bool) (v : List ℕ → Bool) : Type 0 where
  pub inputs_given : map v (given_inputs design) ≡ inputs
  pub registers_kept : map (λ r. v r.name) design.registers ≡ registers
  pub assigns_met : AllByRecursion (λ a. v a.target ≡ value_of v a.value) design.assigns

-- the values of the registers before the first event, and after a reset
abbrev pub initial_registers : VerilogModule → List Bool
initial_registers design = map (λ r. r.init) design.registers

-- The machine of a module: its states are the values of the registers, in an instant a valuation meets every
-- assignment, and after it each register has the value of the name that it gets.
abbrev pub vlog_machine : VerilogModule → Machine (List ℕ → Bool)
vlog_machine design = record {
  State = List Bool;
  start = initial_registers design;
  instant = IsInstant design;
  next = λ registers inputs v. map (λ r. v r.from) design.registers;
}

-- the names that have a value in each instant of a run: all that are declared but the clock
abbrev pub driven_names : VerilogModule → List (List ℕ)
driven_names design =
    given_inputs design ++ (map (λ r. r.name) design.registers ++ map (λ a. a.target) design.assigns)
