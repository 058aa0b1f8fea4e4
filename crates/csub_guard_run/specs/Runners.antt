-- Contract: what the machine of a guarded program is from call to call.
use Rattle.std.specs.Prelude.{◌≡◌, ℕ, Bool, List, map, None}
use Rattle.csub_guard.specs.Machine.{outputs_of, call}
use Rattle.csub_guard.specs.Names.{declared, name_fault}
use Rattle.csub_guard.specs.Trees.{Program}
use Rattle.csub_guard.specs.Views.{program_of}
use Rattle.csub_guard.specs.declared.trees.GuardedProgram.{GuardedProgram}
use Rattle.csub_text.specs.Machine.{Memory, value_of, first_memory}
use Rattle.run_steps.specs.Slots.{memory_in}

-- a program that keeps the rules on names, as each one does that some text describes
abbrev pub KeepsNames : Program → Type 0
KeepsNames p = name_fault p ≡ None

-- a machine: its program as it lies in memory, the values of the declared variables, in declared order, and the number
-- of assignments that the last call ran
pub record Runner : Type 0 where
  pub code : GuardedProgram
  pub values : List Bool
  pub count : ℕ

abbrev pub program_in : Runner → Program
program_in r = program_of r.code

abbrev pub memory_of : Runner → Memory
memory_of r = memory_in (declared (program_in r)) r.values

-- before the first call and after a reset the memory is the first one, and no assignment was run
pub record IsFresh (r : Runner) : Type 0 where
  pub memory : (name : List ℕ) → memory_of r name ≡ first_memory (program_in r).states name
  pub counted : r.count ≡ 0

-- one call of the machine, and the value that it returns
pub record Reacts (old : Runner) (inputs : List Bool) (answer : Bool) (new : Runner) : Type 0 where
  pub same : new.code ≡ old.code
  pub memory : (name : List ℕ) → memory_of new name ≡ (call (program_in old) inputs (memory_of old)).memory name
  pub counted : new.count ≡ (call (program_in old) inputs (memory_of old)).count
  pub returned : answer ≡ value_of (memory_of new) (program_in old).answer

-- a reset puts the machine back to its beginning
pub record Resets (old new : Runner) : Type 0 where
  pub same : new.code ≡ old.code
  pub fresh : IsFresh new

abbrev pub outputs_shown : Runner → List Bool
outputs_shown r = map (memory_of r) (outputs_of (program_in r))
