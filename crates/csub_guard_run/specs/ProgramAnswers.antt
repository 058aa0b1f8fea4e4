-- To believe: what a guarded program shows over items, as lines tell it, and the line of its count. The names of the
-- inputs and outputs are those after their signs, and the value returned gives the word.
use Rattle.std.specs.Prelude.{ℕ, List, ◌++◌, codes, decimal, map}
use Rattle.base_types.specs.Items.{Item}
use Rattle.base_machines.specs.Machines.{Shows}
use Rattle.csub_guard.specs.Machine.{Counted, inputs_of, outputs_of, seen, guarded_machine, count_of}
use Rattle.csub_guard.specs.Trees.{Program}
use Rattle.csub_run.specs.ProgramAnswers.{answer_seen, bare_name}
use Rattle.csub_text.specs.Machine.{first_memory}
use Rattle.run_over_traces.specs.Machines.{ShownAnswer}

-- the names of the inputs and of the outputs, in declared order
abbrev pub bare_inputs : Program → List (List ℕ)
bare_inputs p = map bare_name (inputs_of p)

abbrev pub bare_outputs : Program → List (List ℕ)
bare_outputs p = map bare_name (outputs_of p)

-- what is shown of a call, after which this is so
abbrev pub call_answer : Program → Counted → ShownAnswer
call_answer p behind = answer_seen (seen p behind)

-- the program's machine shows these answers to the items
abbrev pub program_shows : Program → List Item → List ShownAnswer → Type 0
program_shows p items answers = Shows (guarded_machine p) (call_answer p) (first_memory p.states) items answers

-- the line of a count
abbrev pub count_line : ℕ → List ℕ
count_line n = codes "assignments " ++ (decimal n ++ codes "\n")

-- the last line of a run over these items
abbrev pub last_line : Program → List Item → List ℕ
last_line p items = count_line (count_of p items)
