-- To believe: modules with a reset as plain trees.
use Rattle.std.specs.Prelude.{ℕ, List, [], ◌∷◌}
pub use Rattle.vlog_text.specs.Trees.{Assign, Register, VerilogModule}
pub use Rattle.vlog_reset.specs.declared.options.Manner.{Manner}

-- A module, whose first input is the clock, with the port of a reset, which is none of its inputs.
pub record ResetModule : Type 0 where
  pub design : VerilogModule
  pub reset : List ℕ
  pub manner : Manner

-- the clock: the first input
abbrev pub first_name : List (List ℕ) → List ℕ
first_name [] = []
first_name (name ∷ names) = name

abbrev pub clock_of : ResetModule → List ℕ
clock_of m = first_name m.design.inputs

abbrev pub name_of_register : Register → List ℕ
name_of_register r = r.name
