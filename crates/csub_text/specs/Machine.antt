-- To believe: the machine of a program, over items. A memory has a value for each variable.
use Rattle.std.specs.Prelude.{ℕ, Bool, false, List, [], ◌∷◌, map, if◌then◌else◌}
use Rattle.base_types.specs.Items.{Item}
use Rattle.base_types.specs.Names.{is_same_name}
use Rattle.base_machines.specs.Machines.{Machine, computed, run_from}
use Rattle.csub_text.specs.Trees.{StateVariable, Assign, Program}
pub use Rattle.net_expressions.specs.Values.{value_of, all_of, any_of}
use Rattle.csub_text.specs.Names.{inputs_of, outputs_of}

abbrev pub Memory : Type 0
Memory = List ℕ → Bool

-- a variable gets a value
abbrev pub with_value : List ℕ → Bool → Memory → Memory
with_value name value memory = λ other. if is_same_name other name then value else memory other

-- the assignments, one after another
abbrev pub run_body : List Assign → Memory → Memory
run_body [] memory = memory
run_body (a ∷ body) memory = run_body body (with_value a.target (value_of memory a.value) memory)

-- each input gets its value
abbrev pub with_inputs : List (List ℕ) → List Bool → Memory → Memory
with_inputs (name ∷ names) (value ∷ values) memory = with_inputs names values (with_value name value memory)
with_inputs others more memory = memory

-- The memory before the first call and after a reset: a state has its value as written, and an output 0. No input and
-- no local is read before it gets a value.
abbrev pub first_memory : List StateVariable → Memory
first_memory [] = λ name. false
first_memory (s ∷ states) = with_value s.name s.init (first_memory states)

-- the memory after a call with these inputs
abbrev pub call : Program → List Bool → Memory → Memory
call p inputs memory = run_body p.body (with_inputs (inputs_of p) inputs memory)

-- the machine of a program: its states are memories, and what is so in an instant is the memory after the call
abbrev pub program_machine : Program → Machine Memory
program_machine p =
    computed (first_memory p.states) (λ memory inputs. call p inputs memory) (λ memory inputs behind. behind)

-- the memory after each call, from this one on; a reset puts it back and is no call
abbrev pub memories_from : Program → Memory → List Item → List Memory
memories_from p memory items =
    run_from (first_memory p.states) (λ m inputs. call p inputs m) (λ m inputs behind. behind) memory items

abbrev pub memories : Program → List Item → List Memory
memories p items = memories_from p (first_memory p.states) items

-- what is seen of a call: the outputs in declared order, and the value returned
pub record SeenCall : Type 0 where
  pub outputs : List Bool
  pub answer : Bool

abbrev pub seen : Program → Memory → SeenCall
seen p memory = record { outputs = map memory (outputs_of p); answer = value_of memory p.answer }

-- what is seen of the calls
abbrev pub run : Program → List Item → List SeenCall
run p items = map (seen p) (memories p items)
