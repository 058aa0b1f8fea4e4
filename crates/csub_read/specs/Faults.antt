-- To believe: what it means that a text is read, and what a fault says of a text.
use Rattle.std.specs.Prelude.{◌≡◌, ℕ, ◌<◌, ◌≤◌, List, length, Some}
use Rattle.base_types.specs.declared.bounds.TheConstants.Limits.{TEXT_BYTES}
use Rattle.csub_text.specs.Trees.{Program}
use Rattle.net_expressions.specs.Lexemes.{IsFaultPlace}
use Rattle.csub_text.specs.Tokens.{tokens, kinds}
use Rattle.csub_text.specs.Grammar.{WrittenProgram, IsText, program_meant}
use Rattle.csub_text.specs.Names.{NameFault, Twice, Undeclared, Unset, name_fault}
use Rattle.csub_text.specs.Texts.{Describes, nesting_limit}
use Rattle.csub_read.specs.declared.refusal.CFault.{CFault}
use Rattle.csub_read.specs.declared.refusal.CFault.TheVariants as faults

-- the text is short enough, and this is the one program that it describes
pub record ReadsAs (text : List ℕ) (program : Program) : Type 0 where
  pub short : length text ≤ TEXT_BYTES
  pub describes : Describes text program
  pub only : (other : Program) → Describes text other → other ≡ program

-- The place is that of the least token that no text of the grammar passes, with its bound on nesting.
abbrev pub IsSyntaxFault : List ℕ → ℕ → Type 0
IsSyntaxFault text at = IsFaultPlace IsText nesting_limit (tokens text) (length text) at

-- the text has the grammar, and this is the first fault of its names
pub record IsNameFault (text : List ℕ) (fault : NameFault) : Type 0 where
  pub written : WrittenProgram
  pub spelled : IsText nesting_limit written (kinds text)
  pub first : name_fault (program_meant written) ≡ Some fault

abbrev pub ReadsFault : List ℕ → CFault → Type 0
ReadsFault text faults.TooLong = TEXT_BYTES < length text
ReadsFault text (faults.Syntax at) = (length text ≤ TEXT_BYTES) × IsSyntaxFault text at
ReadsFault text (faults.Twice name) = (length text ≤ TEXT_BYTES) × IsNameFault text (Twice name)
ReadsFault text (faults.Undeclared name) = (length text ≤ TEXT_BYTES) × IsNameFault text (Undeclared name)
ReadsFault text (faults.Unset name) = (length text ≤ TEXT_BYTES) × IsNameFault text (Unset name)
