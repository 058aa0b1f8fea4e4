-- To believe: the machine of a guarded program, over items, and how many assignments its calls run.
use Rattle.std.specs.Prelude.{ℕ, ◌+◌, Bool, List, [], ◌∷◌, map, filter, length, sum, if◌then◌else◌}
use Rattle.base_types.specs.Items.{Item}
use Rattle.base_machines.specs.Machines.{Machine, computed, run_from}
use Rattle.csub_text.specs.Grammar.{begins_input, begins_output}
use Rattle.csub_text.specs.Machine.{Memory, SeenCall, value_of, run_body, with_inputs, first_memory}
use Rattle.csub_text.specs.Trees.{Assign}
use Rattle.csub_guard.specs.Trees.{Piece, One, If, Program}

-- the inputs and the outputs of a program, in declared order
abbrev pub inputs_of : Program → List (List ℕ)
inputs_of p = filter begins_input p.globals

abbrev pub outputs_of : Program → List (List ℕ)
outputs_of p = filter begins_output p.globals

-- a memory, and how many assignments were run
pub record Counted : Type 0 where
  pub memory : Memory
  pub count : ℕ

-- assignments, one after another
abbrev pub run_assigns : List Assign → Counted → Counted
run_assigns assigns c = record { memory = run_body assigns c.memory; count = c.count + length assigns }

-- the assignments of a piece that are run at a memory
abbrev pub chosen : Piece → Memory → List Assign
chosen (One a) memory = a ∷ []
chosen (If test first second) memory = if memory test then first else second

-- the pieces, one after another
abbrev pub run_pieces : List Piece → Counted → Counted
run_pieces [] c = c
run_pieces (piece ∷ pieces) c = run_pieces pieces (run_assigns (chosen piece c.memory) c)

-- a call with these inputs: the memory after it, and the number of assignments that it ran
abbrev pub call : Program → List Bool → Memory → Counted
call p inputs memory = run_pieces p.body (record { memory = with_inputs (inputs_of p) inputs memory; count = 0 })

-- the machine of a program: its states are memories, and what is so in an instant is what is after the call
abbrev pub guarded_machine : Program → Machine Counted
guarded_machine p =
    computed (first_memory p.states) (λ memory inputs. call p inputs memory) (λ memory inputs behind. behind.memory)

-- what is after each call from the start on; a reset puts the memory back and is no call
abbrev pub calls : Program → List Item → List Counted
calls p items =
    run_from (first_memory p.states) (λ m inputs. call p inputs m) (λ m inputs behind. behind.memory)
    (first_memory p.states) items

-- what is seen of a call: the outputs in declared order, and the value returned
abbrev pub seen : Program → Counted → SeenCall
seen p behind = record { outputs = map behind.memory (outputs_of p); answer = value_of behind.memory p.answer }

abbrev pub run : Program → List Item → List SeenCall
run p items = map (seen p) (calls p items)

-- the sum of the counts of all calls
abbrev pub count_of : Program → List Item → ℕ
count_of p items = sum (map (λ behind. behind.count) (calls p items))
