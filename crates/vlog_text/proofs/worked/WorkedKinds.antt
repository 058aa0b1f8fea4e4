-- Worked tests of single tokens, by hand: each kind's number, and what it is in an expression and in a declaration.
use Rattle.std.proofs.Common.{◌≡◌, true, false, List, [], ◌∷◌, map, None, Some, codes, refl}
use Rattle.net_expressions.specs.Signs.{NameSign, BitSign, NotSign, OpenSign, CloseSign, AndSign, OrSign, OtherSign}
use Rattle.vlog_text.specs.Trees.{Input}
use Rattle.vlog_text.specs.Tokens.{Kind, ModuleWord, InitialWord, AssignWord, AlwaysWord, PosedgeWord, BeginWord, EndWord, EndmoduleWord}
use Rattle.vlog_text.specs.Tokens.{LeftParenthesis, RightParenthesis, Comma, Semicolon, Equals, At, Bar, Ampersand, Tilde, Becomes, Zero, One}
use Rattle.vlog_text.specs.Tokens.{Declares, Named, Bad}
use Rattle.vlog_text.specs.Grammar.{kind_number, is, sign, name, bit, sort}

abbrev kinds : List Kind
kinds = ModuleWord ∷ InitialWord ∷ AssignWord ∷ AlwaysWord ∷ PosedgeWord ∷ BeginWord ∷ EndWord ∷ EndmoduleWord ∷ LeftParenthesis ∷ RightParenthesis
    ∷ Comma ∷ Semicolon ∷ Equals ∷ At ∷ Bar ∷ Ampersand ∷ Tilde ∷ Becomes ∷ Zero ∷ One ∷ Declares Input ∷ Named (codes "a") ∷ Bad ∷ []

numbers : map kind_number kinds ≡ 0 ∷ 1 ∷ 2 ∷ 3 ∷ 4 ∷ 5 ∷ 6 ∷ 7 ∷ 8 ∷ 9 ∷ 10 ∷ 11 ∷ 12 ∷ 13 ∷ 14 ∷ 15 ∷ 16 ∷ 17 ∷ 18 ∷ 19 ∷ 20 ∷ 21 ∷ 22 ∷ []
numbers = refl

this_kind : map (is InitialWord) (ModuleWord ∷ InitialWord ∷ AssignWord ∷ []) ≡ None ∷ Some tt ∷ None ∷ []
this_kind = refl

signs : map sign kinds ≡ OtherSign ∷ OtherSign ∷ OtherSign ∷ OtherSign ∷ OtherSign ∷ OtherSign ∷ OtherSign ∷ OtherSign ∷ OpenSign ∷ CloseSign
    ∷ OtherSign ∷ OtherSign ∷ OtherSign ∷ OtherSign ∷ OrSign ∷ AndSign ∷ NotSign ∷ OtherSign ∷ BitSign false ∷ BitSign true ∷ OtherSign
    ∷ NameSign (codes "a") ∷ OtherSign ∷ []
signs = refl

names : map name (Named (codes "a") ∷ Zero ∷ Bad ∷ []) ≡ Some (codes "a") ∷ None ∷ None ∷ []
names = refl

bits : map bit (Named (codes "a") ∷ Zero ∷ One ∷ Bad ∷ []) ≡ None ∷ Some false ∷ Some true ∷ None ∷ []
bits = refl

sorts : map sort (Declares Input ∷ Named (codes "a") ∷ Zero ∷ []) ≡ Some Input ∷ None ∷ None ∷ []
sorts = refl
