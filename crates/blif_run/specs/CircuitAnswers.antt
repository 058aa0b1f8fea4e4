-- To believe: what a circuit shows over items, as lines tell it. A last output `_paused` is not listed, and its value
-- gives the word; where there is none, a line has no word.
use Rattle.std.specs.Prelude.{ℕ, Bool, List, map, take}
use Rattle.base_types.specs.Items.{Item}
use Rattle.base_machines.specs.Machines.{Shows}
use Rattle.blif_text.specs.Circuits.{Circuit}
use Rattle.blif_text.specs.OutputNames.{paused_word}
use Rattle.blif_text.specs.Runs.{circuit_machine, circuit_latches}
use Rattle.run_over_traces.specs.Machines.{ShownAnswer}
use Rattle.run_over_traces.specs.Pauses as pauses

-- whether the last one is `_paused`
abbrev pub tells_pause : List (List ℕ) → Bool
tells_pause = pauses.tells_pause paused_word

-- how many outputs are listed
abbrev pub listed_count : List (List ℕ) → ℕ
listed_count = pauses.listed_count paused_word

abbrev pub listed_names : List (List ℕ) → List (List ℕ)
listed_names outputs = take (listed_count outputs) outputs

-- what is shown where the outputs have these values
abbrev pub answer_of : List (List ℕ) → List Bool → ShownAnswer
answer_of = pauses.answer_of paused_word

-- what is shown in an instant of a circuit
abbrev pub circuit_answer : Circuit → (List ℕ → Bool) → ShownAnswer
circuit_answer circuit v = answer_of circuit.outputs (map v circuit.outputs)

-- the circuit's machine shows these answers to the items
abbrev pub circuit_shows : Circuit → List Item → List ShownAnswer → Type 0
circuit_shows circuit items answers =
    Shows (circuit_machine circuit) (circuit_answer circuit) (circuit_latches circuit) items answers
