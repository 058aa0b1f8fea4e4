-- To believe: what a program of the C subset shows over items, as lines tell it. The names of the inputs and outputs
-- are those after their signs, and the value returned gives the word.
use Rattle.std.specs.Prelude.{ℕ, List, drop, map}
use Rattle.base_types.specs.Items.{Item}
use Rattle.base_machines.specs.Machines.{Shows}
use Rattle.csub_text.specs.Machine.{Memory, SeenCall, seen, first_memory, program_machine}
use Rattle.csub_text.specs.Names.{inputs_of, outputs_of}
use Rattle.csub_text.specs.Trees.{Program}
use Rattle.run_over_traces.specs.Languages.{word_of}
use Rattle.run_over_traces.specs.Machines.{ShownAnswer}

-- a name without the two bytes of its sign, `I_` or `O_`
abbrev pub bare_name : List ℕ → List ℕ
bare_name name = drop 2 name

-- the names of the inputs and of the outputs, in declared order
abbrev pub bare_inputs : Program → List (List ℕ)
bare_inputs p = map bare_name (inputs_of p)

abbrev pub bare_outputs : Program → List (List ℕ)
bare_outputs p = map bare_name (outputs_of p)

-- what is shown where this is seen of a call
abbrev pub answer_seen : SeenCall → ShownAnswer
answer_seen s = record { present = s.outputs; word = word_of s.answer }

-- what is shown of a call, which left this memory
abbrev pub call_answer : Program → Memory → ShownAnswer
call_answer p memory = answer_seen (seen p memory)

-- the program's machine shows these answers to the items
abbrev pub program_shows : Program → List Item → List ShownAnswer → Type 0
program_shows p items answers = Shows (program_machine p) (call_answer p) (first_memory p.states) items answers
