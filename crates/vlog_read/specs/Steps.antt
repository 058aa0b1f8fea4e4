-- Inner: what the steps of the reader answer of a text.
use Rattle.std.specs.Prelude.{ℕ, List}
use Rattle.net_expressions.specs.Spelled.{IsSpelled}
use Rattle.net_expressions.specs.Trees.{Expr}
use Rattle.vlog_text.specs.Trees.{Source}
use Rattle.vlog_text.specs.Tokens.{kinds}
use Rattle.vlog_text.specs.Grammar.{IsText, source_meant}
use Rattle.vlog_text.specs.Texts.{nesting_limit}
use Rattle.vlog_read.specs.Faults.{IsSyntaxFault}
use Rattle.vlog_read.specs.declared.refusal.VlogFault.{VlogFault}
use Rattle.vlog_read.specs.declared.refusal.VlogFault.TheVariants as faults

-- the tokens spell what is written for the source, and for no other one
abbrev pub Spells : List ℕ → Source Expr → Type 0
Spells text = IsSpelled IsText nesting_limit source_meant (kinds text)

abbrev pub SyntaxFault : List ℕ → VlogFault → Type 0
SyntaxFault text (faults.Syntax at) = IsSyntaxFault text at
SyntaxFault text others = ⊥
