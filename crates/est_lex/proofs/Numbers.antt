-- The number that digits stand for grows with each digit.
use Rattle.std.proofs.Common.{◌≡◌, ℕ, ◌+◌, ◌-◌, ◌*◌, ◌<◌, ◌≤◌, List, [], ◌∷◌, length, get_or, take, drop, ap, arith}
use Rattle.std.specs.List.{fold}
use Rattle.std.proofs.lemmas.List.{take-append-drop}
use Rattle.std.proofs.lemmas.List.Sums.{fold-append, fold_more}
use Rattle.est_ast.specs.Lexing.{number_of}

grows : (value : ℕ) (digits : List ℕ) → value ≤ fold (λ value digit. 10 * value + (digit - 48)) value digits
grows value [] = omega arith
grows value (digit ∷ digits) = omega (arith, grows (10 * value + (digit - 48)) digits)

-- the digits so far are no greater number
pub front_le : (digits : List ℕ) (n : ℕ) → number_of (take n digits) ≤ number_of digits
front_le digits n =
    let whole = ap number_of (take-append-drop n digits) in
    let parts = fold-append (λ (value : ℕ) (digit : ℕ). 10 * value + (digit - 48)) 0 (take n digits) (drop n digits) in
    omega (arith, whole, parts, grows (number_of (take n digits)) (drop n digits))

-- one more digit
pub number_more : (digits : List ℕ) (n : ℕ) → n < length digits → number_of (take (n + 1) digits) ≡ 10 * number_of (take n digits) + (get_or digits n 0 - 48)
number_more digits n below = fold_more (λ (value : ℕ) (digit : ℕ). 10 * value + (digit - 48)) 0 digits n 0 below
