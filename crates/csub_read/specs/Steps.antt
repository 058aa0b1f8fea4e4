-- Inner: what the steps of the reader answer of a text.
use Rattle.std.specs.Prelude.{ℕ, List}
use Rattle.net_expressions.specs.Spelled.{IsSpelled}
use Rattle.csub_text.specs.Trees.{Program}
use Rattle.csub_text.specs.Tokens.{kinds}
use Rattle.csub_text.specs.Grammar.{IsText, program_meant}
use Rattle.csub_text.specs.Texts.{nesting_limit}
use Rattle.csub_read.specs.declared.refusal.CFault.{CFault}
use Rattle.csub_read.specs.declared.refusal.CFault.TheVariants as faults
use Rattle.csub_read.specs.Faults.{IsSyntaxFault}

-- the tokens spell what is written for the program, and for no other one
abbrev pub Spells : List ℕ → Program → Type 0
Spells text = IsSpelled IsText nesting_limit program_meant (kinds text)

abbrev pub SyntaxFault : List ℕ → CFault → Type 0
SyntaxFault text (faults.Syntax at) = IsSyntaxFault text at
SyntaxFault text others = ⊥
