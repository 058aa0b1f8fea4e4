-- To believe: what it means that a text is read, and what a fault says of a text.
use Rattle.std.specs.Prelude.{◌≡◌, ℕ, ◌<◌, ◌≤◌, List, length, Some}
use Rattle.base_types.specs.declared.bounds.TheConstants.Limits.{TEXT_BYTES}
use Rattle.net_expressions.specs.Grammar.{Written}
use Rattle.net_expressions.specs.Lexemes.{IsFaultPlace}
use Rattle.vlog_text.specs.Trees.{Source, VerilogModule}
use Rattle.vlog_text.specs.Tokens.{tokens, kinds}
use Rattle.vlog_text.specs.Grammar.{IsText, source_meant}
use Rattle.vlog_text.specs.Names.{NameFault, Twice, Port, Undeclared, TwoDrivers, NoDriver, name_fault}
use Rattle.vlog_text.specs.Texts.{Describes, nesting_limit}
use Rattle.vlog_read.specs.declared.refusal.VlogFault.{VlogFault}
use Rattle.vlog_read.specs.declared.refusal.VlogFault.TheVariants as faults

-- the text is short enough, and this is the one module that it describes
pub record ReadsAs (text : List ℕ) (design : VerilogModule) : Type 0 where
  pub short : length text ≤ TEXT_BYTES
  pub describes : Describes text design
  pub only : (other : VerilogModule) → Describes text other → other ≡ design

-- The place is that of the least token that no text of the grammar passes, with its bound on nesting.
abbrev pub IsSyntaxFault : List ℕ → ℕ → Type 0
IsSyntaxFault text at = IsFaultPlace IsText nesting_limit (tokens text) (length text) at

-- the text has the grammar, and this is the first fault of its names
pub record IsNameFault (text : List ℕ) (fault : NameFault) : Type 0 where
  pub written : Source Written
  pub spelled : IsText nesting_limit written (kinds text)
  pub first : name_fault (source_meant written) ≡ Some fault

-- the first fault of a text, in the order of its reader, which finds no cycle
abbrev pub ReadsFault : List ℕ → VlogFault → Type 0
ReadsFault text faults.TooLong = TEXT_BYTES < length text
ReadsFault text (faults.Syntax at) = (length text ≤ TEXT_BYTES) × IsSyntaxFault text at
ReadsFault text (faults.Twice name) = (length text ≤ TEXT_BYTES) × IsNameFault text (Twice name)
ReadsFault text (faults.Port name) = (length text ≤ TEXT_BYTES) × IsNameFault text (Port name)
ReadsFault text (faults.Undeclared name) = (length text ≤ TEXT_BYTES) × IsNameFault text (Undeclared name)
ReadsFault text (faults.TwoDrivers name) = (length text ≤ TEXT_BYTES) × IsNameFault text (TwoDrivers name)
ReadsFault text (faults.NoDriver name) = (length text ≤ TEXT_BYTES) × IsNameFault text (NoDriver name)
ReadsFault text others = ⊥
