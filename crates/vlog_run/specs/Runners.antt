-- Contract: what a runner of a module is from event to event.
use Rattle.std.specs.Prelude.{◌≡◌, ℕ, Bool, false, List, length, map, replicate}
use Rattle.vlog_text.specs.Machine.{IsInstant, initial_registers, driven_names}
use Rattle.vlog_text.specs.Trees.{VerilogModule}
use Rattle.vlog_text.specs.Views.{module_of}
use Rattle.vlog_text.specs.declared.trees.Module.{Module as CodeModule}

-- a runner: its module as it lies in memory, the values of the registers in the next instant, and those of the outputs
-- in the last one
pub record Runner : Type 0 where
  pub code : CodeModule
  pub registers : List Bool
  pub outputs : List Bool

abbrev pub module_in : Runner → VerilogModule
module_in r = module_of r.code

-- before the first event and after a reset each register has its initial value, and every output is false
pub record IsFresh (r : Runner) : Type 0 where
  pub registers_initial : r.registers ≡ initial_registers (module_in r)
  pub outputs_false : r.outputs ≡ replicate (length (module_in r).outputs) false

-- One reaction: there is a valuation that meets the assignments at the registers' values and the inputs, and no other
-- on the driven names. The outputs have its values, and each register gets the value of the name that it gets.
pub record Reacts (old : Runner) (inputs : List Bool) (new : Runner) : Type 0 where
  pub same : new.code ≡ old.code
  pub valuation : List ℕ → Bool
  pub instant : IsInstant (module_in old) old.registers inputs valuation
  pub only : (v : List ℕ → Bool) → IsInstant (module_in old) old.registers inputs v
      → map v (driven_names (module_in old)) ≡ map valuation (driven_names (module_in old))
  pub outputs : new.outputs ≡ map valuation (module_in old).outputs
  pub registers : new.registers ≡ map (λ r. valuation r.from) (module_in old).registers

-- a reset puts the runner back to its beginning
pub record Resets (old new : Runner) : Type 0 where
  pub same : new.code ≡ old.code
  pub fresh : IsFresh new
