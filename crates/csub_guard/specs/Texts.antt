-- To believe: which guarded program a text describes.
use Rattle.std.specs.Prelude.{◌≡◌, ℕ, List, None}
use Rattle.csub_text.specs.Texts.{nesting_limit}
use Rattle.csub_guard.specs.Tokens.{kinds}
use Rattle.csub_guard.specs.Grammar.{WrittenProgram, IsText, program_meant}
use Rattle.csub_guard.specs.Names.{name_fault}
use Rattle.csub_guard.specs.Trees.{Program}

-- The text has the grammar's tokens of something written that is this program and keeps the rules on names.
pub record Describes (text : List ℕ) (program : Program) : Type 0 where
  pub written : WrittenProgram
  pub spelled : IsText nesting_limit written (kinds text)
  pub means : program_meant written ≡ program
  pub names_fit : name_fault program ≡ None
