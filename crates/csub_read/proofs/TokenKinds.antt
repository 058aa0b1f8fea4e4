-- Inner: the kinds of tokens as numbers, and what the tests of single tokens take.
use Rattle.std.proofs.Common.{◌≡◌, ℕ, ◌<◌, ◌≤◌, Bool, true, false, ◌&&◌, ◌==◌, cond, eqb, eq-eqb, nat_lt, List, [], ◌∷◌, length, Some, None, is_some}
use Rattle.std.proofs.Common.{refl, sym, ◌∙◌, ap, arith}
use Rattle.std.specs.Prelude.{if◌then◌else◌}
use Rattle.std.proofs.lemmas.Bool.{eqb-true}
use Rattle.csub_text.specs.Tokens.{Kind, Static, LeftParenthesis, Zero, One, Bar, Ampersand, Bang, Named}
use Rattle.csub_text.specs.Grammar.{kind_number, is, sign, name, bit, begins_global, global_name, own_name}
use Rattle.net_expressions.proofs.Exports.{sign_class, factor_set, both-ways}
use Rattle.base_reader.proofs.Exports.{has, Test, test-of}

-- names that a state or a local may have, those that a global may have, and those that neither may
abbrev pub name_class : List ℕ → ℕ
name_class n = cond (begins_global n) (cond (nat_lt 2 (length n)) 20 21) 18

abbrev pub class : Kind → ℕ
class (Named n) = name_class n
class others = kind_number others

high : (b c : Bool) → 18 ≤ cond b (cond c 20 21) 18
high true true = omega arith
high true false = omega arith
high false c = omega arith

apart-high : (n m : ℕ) → n < 18 → 18 ≤ m → eqb n m ≡ false
apart-high n m low up = elim (eqb n m) as
    (λ b. eqb n m ≡ b → b ≡ false) [ true ↦ λ e. absurd (omega (arith, low, up, eqb-true n m e)) | false ↦ λ e. refl ] refl

is-agrees : (k : Kind) → kind_number k < 18 → (token : Kind) → is_some (is k token) ≡ has (kind_number k ∷ []) (class token)
is-agrees k low (Named n) =
    ap (λ b. is_some {T = Unit {0}} (if b then Some tt else None)) (apart-high (kind_number k) 18 low (omega arith))
    ∙ sym (ap (λ b. cond b true false) (apart-high (kind_number k) (name_class n) low (high (begins_global n) (nat_lt 2 (length n)))))
is-agrees k low Static = both-ways (kind_number k == 0)
is-agrees k low token = both-ways (kind_number k == kind_number token)

-- a word or a mark
pub is-test : (k : Kind) → kind_number k < 18 → Test class (is k) (kind_number k ∷ [])
is-test k low = test-of (kind_number k ∷ []) (is-agrees k low) k tt (ap (λ b. if b then Some tt else None) (eq-eqb (kind_number k) (kind_number k) refl))

abbrev pub name_set : List ℕ
name_set = 18 ∷ 20 ∷ 21 ∷ []

in-names : (b c : Bool) → true ≡ has name_set (cond b (cond c 20 21) 18)
in-names true true = refl
in-names true false = refl
in-names false c = refl

pub name-test : Test class name name_set
name-test = test-of name_set agrees (Named []) [] refl
  where
    agrees : (token : Kind) → is_some (name token) ≡ has name_set (class token)
    agrees (Named n) = in-names (begins_global n) (nat_lt 2 (length n))
    agrees Static = refl
    agrees _ = refl

in-own : (n : List ℕ) (b c : Bool) → is_some (if b then None else Some n) ≡ has (18 ∷ []) (cond b (cond c 20 21) 18)
in-own n true true = refl
in-own n true false = refl
in-own n false c = refl

pub own-test : Test class own_name (18 ∷ [])
own-test = test-of (18 ∷ []) agrees (Named []) [] refl
  where
    agrees : (token : Kind) → is_some (own_name token) ≡ has (18 ∷ []) (class token)
    agrees (Named n) = in-own n (begins_global n) (nat_lt 2 (length n))
    agrees Static = refl
    agrees _ = refl

in-global : (n : List ℕ) (b c : Bool) → is_some (if b && c then Some n else None) ≡ has (20 ∷ []) (cond b (cond c 20 21) 18)
in-global n true true = refl
in-global n true false = refl
in-global n false c = refl

pub global-test : Test class global_name (20 ∷ [])
global-test = test-of (20 ∷ []) agrees (Named (73 ∷ 95 ∷ 65 ∷ [])) (73 ∷ 95 ∷ 65 ∷ []) refl
  where
    agrees : (token : Kind) → is_some (global_name token) ≡ has (20 ∷ []) (class token)
    agrees (Named n) = in-global n (begins_global n) (nat_lt 2 (length n))
    agrees Static = refl
    agrees _ = refl

pub bit-test : Test class bit (13 ∷ 14 ∷ [])
bit-test = test-of (13 ∷ 14 ∷ []) agrees Zero false refl
  where
    none : (b c : Bool) → false ≡ has (13 ∷ 14 ∷ []) (cond b (cond c 20 21) 18)
    none true true = refl
    none true false = refl
    none false c = refl

    agrees : (token : Kind) → is_some (bit token) ≡ has (13 ∷ 14 ∷ []) (class token)
    agrees (Named n) = none (begins_global n) (nat_lt 2 (length n))
    agrees Static = refl
    agrees _ = refl

-- what begins a part of an expression, and what goes on with one
abbrev pub begins_set : List ℕ
begins_set = 17 ∷ 7 ∷ 13 ∷ 14 ∷ 18 ∷ 20 ∷ 21 ∷ []

pub sign-begins : (token : Kind) → has factor_set (sign_class sign token) ≡ true → has begins_set (class token) ≡ true
sign-begins (Named n) is = all (begins_global n) (nat_lt 2 (length n))
  where
    all : (b c : Bool) → has begins_set (cond b (cond c 20 21) 18) ≡ true
    all true true = refl
    all true false = refl
    all false c = refl
sign-begins Bang is = refl
sign-begins LeftParenthesis is = refl
sign-begins Zero is = refl
sign-begins One is = refl
sign-begins _ is = cc

pub sign-follows : (token : Kind) → has (16 ∷ 15 ∷ []) (class token) ≡ false → has (5 ∷ 6 ∷ []) (sign_class sign token) ≡ false
sign-follows (Named n) out = refl
sign-follows Bar out = cc
sign-follows Ampersand out = cc
sign-follows _ out = refl
