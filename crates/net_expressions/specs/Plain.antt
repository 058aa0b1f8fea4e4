-- Inner: the plain forms of signs, of tokens and of what begins a text, and of the names in an expression.
use Rattle.std.specs.Prelude.{ℕ, List, [], ◌∷◌}
use Rattle.net_expressions.specs.Lexemes.{PlacedToken, Front, Gap, Lexeme, Wrong}
use Rattle.net_expressions.specs.Signs.{Sign, NameSign, BitSign, NotSign, OpenSign, CloseSign, AndSign, OrSign}
use Rattle.net_expressions.specs.Signs.{OtherSign}
use Rattle.net_expressions.specs.Names.{names_in}
use Rattle.net_expressions.specs.Views.{expr_of}
use Rattle.net_expressions.specs.declared.trees.Expr.{Expr as CodeExpr}
use Rattle.net_expressions.specs.declared.kinds.Sign.{Sign as CodeSign}
use Rattle.net_expressions.specs.declared.kinds.Sign.TheVariants as signs
use Rattle.net_expressions.specs.declared.kinds.Token.{Token as CodeToken}
use Rattle.net_expressions.specs.declared.kinds.Front.{Front as CodeFront}
use Rattle.net_expressions.specs.declared.kinds.Front.TheVariants as fronts

abbrev pub sign_of : CodeSign → Sign
sign_of (signs.Name name) = NameSign name.now
sign_of (signs.Bit value) = BitSign value
sign_of signs.Not = NotSign
sign_of signs.Open = OpenSign
sign_of signs.Close = CloseSign
sign_of signs.And = AndSign
sign_of signs.Or = OrSign
sign_of signs.Other = OtherSign

-- the kind of a token, and the token, where the plain forms of kinds are given
abbrev pub kind_by : {K P : Type 0} → (K → P) → CodeToken K → P
kind_by plain t = plain t.kind

abbrev pub token_by : {K P : Type 0} → (K → P) → CodeToken K → PlacedToken P
token_by plain t = record { kind = plain t.kind; at = t.at }

abbrev pub front_by : {K P : Type 0} → (K → P) → CodeFront K → Front P
front_by plain (fronts.Gap more) = Gap more
front_by plain (fronts.Lexeme more kind) = Lexeme more (plain kind)
front_by plain fronts.Wrong = Wrong

-- what a text that is not empty begins with
abbrev pub front_at : {P : Type 0} → (ℕ → List ℕ → Front P) → List ℕ → Front P
front_at front [] = Wrong
front_at front (c ∷ cs) = front c cs

-- how many bytes a front has after the first one
abbrev pub front_more : {P : Type 0} → Front P → ℕ
front_more (Gap more) = more
front_more (Lexeme more kind) = more
front_more Wrong = 0

-- the names in an expression of the code. The definition is closed, so that a proof sees one row at a time.
unfoldable pub names_at : CodeExpr → List (List ℕ)
names_at e = names_in (expr_of e)
