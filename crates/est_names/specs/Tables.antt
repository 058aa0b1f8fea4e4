-- Contract: the table of a program's modules.
use Rattle.std.specs.Prelude.{◌≡◌, ℕ, List, [], Option, Some}
use Rattle.est_ast.specs.Trees.{SourceProgram}
use Rattle.est_names.specs.NameFaults.{module_names, main_place, name_faults}

-- the place of the main module, and the names of all modules in their order
pub record Modules : Type 0 where
  pub main : ℕ
  pub names : List (List ℕ)

-- the table of a program whose names have no fault, where its main module is asked for so
pub record IsTable (main : Option (List ℕ)) (program : SourceProgram) (table : Modules) : Type 0 where
  pub faultless : name_faults main program ≡ []
  pub names : table.names ≡ module_names program
  pub main_place : main_place main (module_names program) ≡ Some table.main

-- a table of the program
abbrev pub IsTableOf : SourceProgram → Modules → Type 0
IsTableOf program table = (main : Option (List ℕ)) × IsTable main program table
