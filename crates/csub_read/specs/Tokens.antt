-- Inner: the plain forms of kinds of tokens.
use Rattle.std.specs.Prelude.{◌≡◌, ℕ, ◌+◌, true, false, Option, Some, None, refl}
use Rattle.csub_text.specs.Tokens.{Kind}
use Rattle.csub_text.specs.Tokens as spec
use Rattle.csub_text.specs.Grammar.{sign}
use Rattle.net_expressions.specs.Signs.{Sign, NameSign, BitSign, NotSign, OpenSign, CloseSign, AndSign, OrSign}
use Rattle.net_expressions.specs.Signs.{OtherSign}
use Rattle.net_expressions.specs.Plain.{kind_by}
use Rattle.net_expressions.specs.declared.kinds.Token.{Token}
use Rattle.csub_read.specs.declared.tokens.Kind.{Kind as CodeKind}
use Rattle.csub_read.specs.declared.tokens.Kind.TheVariants as kinds

abbrev pub kind_of : CodeKind → Kind
kind_of kinds.Static = spec.Static
kind_of kinds.Int = spec.Int
kind_of kinds.Return = spec.Return
kind_of kinds.Void = spec.Void
kind_of kinds.React = spec.React
kind_of kinds.If = spec.If
kind_of kinds.Else = spec.Else
kind_of kinds.LeftParenthesis = spec.LeftParenthesis
kind_of kinds.RightParenthesis = spec.RightParenthesis
kind_of kinds.LeftBrace = spec.LeftBrace
kind_of kinds.RightBrace = spec.RightBrace
kind_of kinds.Semicolon = spec.Semicolon
kind_of kinds.Equals = spec.Equals
kind_of kinds.Zero = spec.Zero
kind_of kinds.One = spec.One
kind_of kinds.Bar = spec.Bar
kind_of kinds.Ampersand = spec.Ampersand
kind_of kinds.Bang = spec.Bang
kind_of (kinds.Named name) = spec.Named name.now
kind_of kinds.Bad = spec.Bad

-- the kind of a token
abbrev pub kind_in : Token CodeKind → Kind
kind_in = kind_by kind_of

-- each sign is that of some kind
pub spelled : (s : Sign) → (kind : Kind) × (sign kind ≡ s)
spelled (NameSign name) = (spec.Named name, refl)
spelled (BitSign false) = (spec.Zero, refl)
spelled (BitSign true) = (spec.One, refl)
spelled NotSign = (spec.Bang, refl)
spelled OpenSign = (spec.LeftParenthesis, refl)
spelled CloseSign = (spec.RightParenthesis, refl)
spelled AndSign = (spec.Ampersand, refl)
spelled OrSign = (spec.Bar, refl)
spelled OtherSign = (spec.Bad, refl)

-- the same number, and so many more
abbrev pub more_by : ℕ → Option ℕ → Option ℕ
more_by n None = None
more_by n (Some k) = Some (k + n)
