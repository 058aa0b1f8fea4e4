-- To believe: what a module shows over items, as lines tell it. The clock is not among the inputs. The names of
-- inputs and outputs are without their signs. A last output `paused` is not listed, and its value gives the word; where
-- there is none, there is no word.
use Rattle.std.specs.Prelude.{ℕ, Bool, List, map, take, drop}
use Rattle.base_types.specs.Items.{Item}
use Rattle.base_machines.specs.Machines.{Shows}
use Rattle.run_over_traces.specs.Machines.{ShownAnswer}
use Rattle.run_over_traces.specs.Pauses as pauses
use Rattle.vlog_text.specs.Machine.{given_inputs, vlog_machine, initial_registers}
use Rattle.vlog_text.specs.Names.{paused_name}
use Rattle.vlog_text.specs.Trees.{VerilogModule}

-- whether the last one is `paused`
abbrev pub tells_pause : List (List ℕ) → Bool
tells_pause = pauses.tells_pause paused_name

-- how many outputs are listed
abbrev pub listed_count : List (List ℕ) → ℕ
listed_count = pauses.listed_count paused_name

-- a name without the two bytes of its sign, `i_` or `o_`
abbrev pub bare_name : List ℕ → List ℕ
bare_name name = drop 2 name

-- the names of the inputs and of the listed outputs, in declared order
abbrev pub bare_inputs : VerilogModule → List (List ℕ)
bare_inputs design = map bare_name (given_inputs design)

abbrev pub bare_outputs : VerilogModule → List (List ℕ)
bare_outputs design = map bare_name (take (listed_count design.outputs) design.outputs)

-- what is shown where the outputs have these values
abbrev pub answer_of : List (List ℕ) → List Bool → ShownAnswer
answer_of = pauses.answer_of paused_name

-- what is shown in an instant of a module
abbrev pub module_answer : VerilogModule → (List ℕ → Bool) → ShownAnswer
module_answer design v = answer_of design.outputs (map v design.outputs)

-- the module's machine shows these answers to the items
abbrev pub module_shows : VerilogModule → List Item → List ShownAnswer → Type 0
module_shows design items answers =
    Shows (vlog_machine design) (module_answer design) (initial_registers design) items answers
