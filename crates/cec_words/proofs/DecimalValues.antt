-- Numbers that are read digit by digit.
use Rattle.std.proofs.Common.{◌≡◌, ℕ, ◌+◌, ◌-◌, ◌*◌, ◌^◌, ◌<◌, ◌≤◌, true, false, not, ◌&&◌, nat_lt, List, [], ◌∷◌, length, take, drop, get_or, fold, refl, ap}
use Rattle.std.proofs.Common.{sym, ◌∙◌, arith, Some, None}
use Rattle.std.specs.List.{list_all}
use Rattle.std.proofs.lemmas.Bool.{le-ltb, lt-ltb, and_right}
use Rattle.std.proofs.lemmas.List.{take-append-drop}
use Rattle.std.proofs.lemmas.List.Sums.{fold_more, fold-append}
use Rattle.base_types.specs.Names.{is_digit}
use Rattle.cec_words.specs.Numbers.{decimal_value, is_empty, number}

-- more digits make no smaller number
fold-le : (n : ℕ) (digits : List ℕ) → n ≤ fold (λ m c. m * 10 + (c - 48)) n digits
fold-le n [] = omega arith
fold-le n (c ∷ digits) = let more = fold-le (n * 10 + (c - 48)) digits in omega arith

decimal_value-take-le : (digits : List ℕ) (i : ℕ) → decimal_value (take i digits) ≤ decimal_value digits
decimal_value-take-le digits i =
    let f = λ (m c : ℕ). m * 10 + (c - 48) in
    let e : decimal_value digits ≡ fold f (decimal_value (take i digits)) (drop i digits) = ap decimal_value (sym (take-append-drop i digits))
    ∙ fold-append f 0 (take i digits) (drop i digits) in
    let more = fold-le (decimal_value (take i digits)) (drop i digits) in
    omega arith

-- too great from some digit on
pub number-over : (bytes : List ℕ) (i : ℕ) → i < length bytes → 2 ^ 64 ≤ decimal_value (take i bytes) * 10 + (get_or bytes i 0 - 48) → None ≡ number bytes
number-over bytes i low great =
    let more = fold_more (λ (m c : ℕ). m * 10 + (c - 48)) 0 bytes i 0 low in
    let high : 2 ^ 64 ≤ decimal_value bytes = omega (arith, decimal_value-take-le bytes (i + 1)) in
    let no = le-ltb (decimal_value bytes) (2 ^ 64) high in
    rw (and_right (not (is_empty bytes) && list_all is_digit bytes) (nat_lt (decimal_value bytes) (2 ^ 64)) no) refl

not_empty : (bytes : List ℕ) → 0 < length bytes → is_empty bytes ≡ false
not_empty [] some = absurd (omega arith)
not_empty (c ∷ bytes) some = refl

-- digits all, and not too great
pub number-whole : (bytes : List ℕ) (value : ℕ) → 0 < length bytes → value ≡ decimal_value bytes → list_all is_digit bytes ≡ true → value < 2 ^ 64 →
    Some value ≡ number bytes
number-whole bytes value some is digits low =
    let yes = lt-ltb value (2 ^ 64) low in
    rw (← is, not_empty bytes some, digits, yes) refl
