-- Inner: the plain forms of kinds of tokens.
use Rattle.std.specs.Prelude.{◌≡◌, true, false, refl}
use Rattle.net_expressions.specs.Signs.{Sign, NameSign, BitSign, NotSign, OpenSign, CloseSign, AndSign, OrSign}
use Rattle.net_expressions.specs.Signs.{OtherSign}
use Rattle.net_expressions.specs.Plain.{kind_by}
use Rattle.net_expressions.specs.declared.kinds.Token.{Token}
use Rattle.vlog_text.specs.Trees.{Sort}
use Rattle.vlog_text.specs.Trees as trees
use Rattle.vlog_text.specs.Tokens.{Kind}
use Rattle.vlog_text.specs.Tokens as spec
use Rattle.vlog_text.specs.Grammar.{sign}
use Rattle.vlog_read.specs.declared.sources.Sort.{Sort as CodeSort}
use Rattle.vlog_read.specs.declared.sources.Sort.TheVariants as sorts
use Rattle.vlog_read.specs.declared.tokens.Kind.{Kind as CodeKind}
use Rattle.vlog_read.specs.declared.tokens.Kind.TheVariants as kinds

abbrev pub plain_sort : CodeSort → Sort
plain_sort sorts.Input = trees.Input
plain_sort sorts.Output = trees.Output
plain_sort sorts.Wire = trees.Wire
plain_sort sorts.Reg = trees.Reg

abbrev pub kind_of : CodeKind → Kind
kind_of kinds.ModuleWord = spec.ModuleWord
kind_of kinds.InitialWord = spec.InitialWord
kind_of kinds.AssignWord = spec.AssignWord
kind_of kinds.AlwaysWord = spec.AlwaysWord
kind_of kinds.PosedgeWord = spec.PosedgeWord
kind_of kinds.BeginWord = spec.BeginWord
kind_of kinds.EndWord = spec.EndWord
kind_of kinds.EndmoduleWord = spec.EndmoduleWord
kind_of kinds.LeftParenthesis = spec.LeftParenthesis
kind_of kinds.RightParenthesis = spec.RightParenthesis
kind_of kinds.Comma = spec.Comma
kind_of kinds.Semicolon = spec.Semicolon
kind_of kinds.Equals = spec.Equals
kind_of kinds.At = spec.At
kind_of kinds.Bar = spec.Bar
kind_of kinds.Ampersand = spec.Ampersand
kind_of kinds.Tilde = spec.Tilde
kind_of kinds.Becomes = spec.Becomes
kind_of kinds.Zero = spec.Zero
kind_of kinds.One = spec.One
kind_of (kinds.Declares sort) = spec.Declares (plain_sort sort)
kind_of (kinds.Named name) = spec.Named name.now
kind_of kinds.Bad = spec.Bad

-- the kind of a token
abbrev pub kind_in : Token CodeKind → Kind
kind_in = kind_by kind_of

-- each sign is that of some kind
pub spelled : (s : Sign) → (kind : Kind) × (sign kind ≡ s)
spelled (NameSign name) = (spec.Named name, refl)
spelled (BitSign false) = (spec.Zero, refl)
spelled (BitSign true) = (spec.One, refl)
spelled NotSign = (spec.Tilde, refl)
spelled OpenSign = (spec.LeftParenthesis, refl)
spelled CloseSign = (spec.RightParenthesis, refl)
spelled AndSign = (spec.Ampersand, refl)
spelled OrSign = (spec.Bar, refl)
spelled OtherSign = (spec.Bad, refl)
