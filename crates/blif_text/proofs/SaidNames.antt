-- The words behind `.names`.
use Rattle.std.proofs.Common.{◌≡◌, ℕ, ◌+◌, ◌-◌, ◌<◌, ◌≤◌, true, List, [], ◌∷◌, ◌++◌, length, map, get_or, take, sym, ap, ◌∙◌, arith, Some}
use Rattle.std.specs.Prelude.{nat_le}
use Rattle.std.proofs.lemmas.Bool.{le-leb}
use Rattle.std.proofs.lemmas.List.{take_all, take_more, map-append, length-append}
use Rattle.blif_text.specs.Statements.{Names, names_of}
use Rattle.blif_text.proofs.ReadsBack.{table_of-names}

-- at most eight names, and the output
pub names_of-last : (inputs : List (List ℕ)) (output : List ℕ) → length inputs ≤ 8 → names_of (inputs ++ output ∷ []) ≡ Some (Names inputs output)
names_of-last inputs output few =
    let short : nat_le (length (inputs ++ output ∷ [])) 9 ≡ true = le-leb _ 9 (omega (arith, length-append inputs (output ∷ []))) in
    rw short (table_of-names inputs output)

-- a list up to its last element, and the last one
pub map-last : {X Y : Type 0} (f : X → Y) (xs : List X) (d : X) → 0 < length xs
    → map f xs ≡ map f (take (length xs - 1) xs) ++ f (get_or xs (length xs - 1) d) ∷ []
map-last f xs d some =
    let n : length xs - 1 + 1 ≡ length xs = omega arith in
    let whole : xs ≡ take (length xs - 1 + 1) xs = sym (take_all (length xs - 1 + 1) xs (omega arith)) in
    ap (map f) (whole ∙ take_more xs (length xs - 1) d (omega arith)) ∙ map-append f (take (length xs - 1) xs) (get_or xs (length xs - 1) d ∷ [])
