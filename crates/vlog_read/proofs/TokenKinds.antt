-- Inner: the numbers of kinds as classes of tokens, and what the tests of single tokens take.
use Rattle.std.proofs.Common.{◌≡◌, ℕ, true, false, List, [], ◌∷◌, is_some, refl}
use Rattle.base_reader.proofs.Exports.{has, Test, test-of}
use Rattle.net_expressions.proofs.Exports.{sign_class, factor_set, number-test}
use Rattle.vlog_text.specs.Trees.{Input}
use Rattle.vlog_text.specs.Tokens.{Kind, LeftParenthesis, Bar, Ampersand, Tilde, Zero, One, Declares, Named}
use Rattle.vlog_text.specs.Grammar.{kind_number, is, sign, name, bit, sort}

-- a word or a mark
pub is-test : (k : Kind) → Test kind_number (is k) (kind_number k ∷ [])
is-test k = number-test kind_number (kind_number k) k refl

pub name-test : Test kind_number name (21 ∷ [])
name-test = test-of (21 ∷ []) agrees (Named []) [] refl
  where
    agrees : (token : Kind) → is_some (name token) ≡ has (21 ∷ []) (kind_number token)
    agrees (Named n) = refl
    agrees _ = refl

pub bit-test : Test kind_number bit (18 ∷ 19 ∷ [])
bit-test = test-of (18 ∷ 19 ∷ []) agrees Zero false refl
  where
    agrees : (token : Kind) → is_some (bit token) ≡ has (18 ∷ 19 ∷ []) (kind_number token)
    agrees Zero = refl
    agrees _ = refl

pub sort-test : Test kind_number sort (20 ∷ [])
sort-test = test-of (20 ∷ []) agrees (Declares Input) Input refl
  where
    agrees : (token : Kind) → is_some (sort token) ≡ has (20 ∷ []) (kind_number token)
    agrees (Declares s) = refl
    agrees _ = refl

-- what begins a part of an expression, and what goes on with one
abbrev pub begins_set : List ℕ
begins_set = 16 ∷ 8 ∷ 18 ∷ 19 ∷ 21 ∷ []

pub sign-begins : (token : Kind) → has factor_set (sign_class sign token) ≡ true → has begins_set (kind_number token) ≡ true
sign-begins (Named n) is = refl
sign-begins Tilde is = refl
sign-begins LeftParenthesis is = refl
sign-begins Zero is = refl
sign-begins One is = refl
sign-begins _ is = cc

pub sign-follows : (token : Kind) → has (15 ∷ 14 ∷ []) (kind_number token) ≡ false → has (5 ∷ 6 ∷ []) (sign_class sign token) ≡ false
sign-follows Bar out = cc
sign-follows Ampersand out = cc
sign-follows _ out = refl
