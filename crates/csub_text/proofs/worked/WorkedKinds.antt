-- Worked tests of single tokens, by hand: each kind's number, and what it is in an expression and in a declaration.
use Rattle.std.proofs.Common.{◌≡◌, true, false, List, [], ◌∷◌, map, None, Some, codes, refl}
use Rattle.net_expressions.specs.Signs.{NameSign, BitSign, NotSign, OpenSign, CloseSign, AndSign, OrSign, OtherSign}
use Rattle.csub_text.specs.Tokens.{Kind, Static, Int, Return, Void, React, If, Else, LeftParenthesis, RightParenthesis, LeftBrace, RightBrace}
use Rattle.csub_text.specs.Tokens.{Semicolon, Equals, Zero, One, Bar, Ampersand, Bang, Named, Bad}
use Rattle.csub_text.specs.Grammar.{kind_number, is, sign, name, bit, global_name, own_name}

abbrev kinds : List Kind
kinds = Static ∷ Int ∷ Return ∷ Void ∷ React ∷ If ∷ Else ∷ LeftParenthesis ∷ RightParenthesis ∷ LeftBrace ∷ RightBrace ∷ Semicolon ∷ Equals
    ∷ Zero ∷ One ∷ Bar ∷ Ampersand ∷ Bang ∷ Named (codes "a") ∷ Bad ∷ []

numbers : map kind_number kinds ≡ 0 ∷ 1 ∷ 2 ∷ 3 ∷ 4 ∷ 5 ∷ 6 ∷ 7 ∷ 8 ∷ 9 ∷ 10 ∷ 11 ∷ 12 ∷ 13 ∷ 14 ∷ 15 ∷ 16 ∷ 17 ∷ 18 ∷ 19 ∷ []
numbers = refl

this_kind : map (is Int) (Static ∷ Int ∷ Return ∷ []) ≡ None ∷ Some tt ∷ None ∷ []
this_kind = refl

signs : map sign kinds ≡ OtherSign ∷ OtherSign ∷ OtherSign ∷ OtherSign ∷ OtherSign ∷ OtherSign ∷ OtherSign ∷ OpenSign ∷ CloseSign ∷ OtherSign ∷ OtherSign
    ∷ OtherSign ∷ OtherSign ∷ BitSign false ∷ BitSign true ∷ OrSign ∷ AndSign ∷ NotSign ∷ NameSign (codes "a") ∷ OtherSign ∷ []
signs = refl

abbrev each : List Kind
each = Named (codes "I_A") ∷ Named (codes "O_A") ∷ Named (codes "I_") ∷ Named (codes "O_")
    ∷ Named (codes "I") ∷ Named (codes "i_A") ∷ Named (codes "s0") ∷ One ∷ []

names : map name (Named (codes "a") ∷ Zero ∷ Bad ∷ []) ≡ Some (codes "a") ∷ None ∷ None ∷ []
names = refl

bits : map bit (Named (codes "a") ∷ Zero ∷ One ∷ Bad ∷ []) ≡ None ∷ Some false ∷ Some true ∷ None ∷ []
bits = refl

global_names : map global_name each ≡ Some (codes "I_A") ∷ Some (codes "O_A") ∷ None ∷ None ∷ None ∷ None ∷ None ∷ None ∷ []
global_names = refl

own_names : map own_name each ≡ None ∷ None ∷ None ∷ None ∷ Some (codes "I") ∷ Some (codes "i_A") ∷ Some (codes "s0") ∷ None ∷ []
own_names = refl
