-- Contract: what the machine of a program is from call to call.
use Rattle.std.specs.Prelude.{◌≡◌, ℕ, Bool, List, map, None}
use Rattle.csub_text.specs.declared.trees.CProgram.{CProgram}
use Rattle.csub_text.specs.Trees.{Program}
use Rattle.csub_text.specs.Views.{program_of}
use Rattle.csub_text.specs.Names.{declared, outputs_of, name_fault}
use Rattle.csub_text.specs.Machine.{Memory, value_of, first_memory, call}
use Rattle.run_steps.specs.Slots.{memory_in}

-- a program that keeps the rules on names, as each one does that some text describes
abbrev pub KeepsNames : Program → Type 0
KeepsNames p = name_fault p ≡ None

-- a machine: its program as it lies in memory, and the values of the declared variables, in declared order
pub record Runner : Type 0 where
  pub code : CProgram
  pub values : List Bool

abbrev pub program_in : Runner → Program
program_in r = program_of r.code

abbrev pub memory_of : Runner → Memory
memory_of r = memory_in (declared (program_in r)) r.values

-- before the first call and after a reset the memory is the first one
abbrev pub IsFresh : Runner → Type 0
IsFresh r = (name : List ℕ) → memory_of r name ≡ first_memory (program_in r).states name

-- one call of the machine, and the value that it returns
pub record Reacts (old : Runner) (inputs : List Bool) (answer : Bool) (new : Runner) : Type 0 where
  pub same : new.code ≡ old.code
  pub memory : (name : List ℕ) → memory_of new name ≡ call (program_in old) inputs (memory_of old) name
  pub returned : answer ≡ value_of (memory_of new) (program_in old).answer

-- a reset puts the machine back to its beginning
pub record Resets (old new : Runner) : Type 0 where
  pub same : new.code ≡ old.code
  pub fresh : IsFresh new

abbrev pub outputs_shown : Runner → List Bool
outputs_shown r = map (memory_of r) (outputs_of (program_in r))
