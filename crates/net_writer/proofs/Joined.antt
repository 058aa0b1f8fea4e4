-- Inner: the parts of several lists, what is put of them, how many they are, and their text.
use Rattle.std.proofs.Common.{◌≡◌, ℕ, ◌+◌, ◌-◌, ◌^◌, Vec, ◌<◌, ◌≤◌, Bool, true, false, List, [], ◌∷◌, ◌++◌}
use Rattle.std.proofs.Common.{length, map, get_or, sym, ◌∙◌, ap, arith}
use Rattle.std.specs.Prelude.{flat_map}
use Rattle.std.proofs.lemmas.List.{append-nil, length-append, get_or_append_left, append_assoc}
use Rattle.std.proofs.Math.Seq.{get_or-append_right}
use Rattle.std.proofs.lemmas.List.{length-map}
use Rattle.net_ir.specs.Numbered.{numbered}
use Rattle.net_ir.proofs.Exports.{length-numbered}
use Rattle.net_writer.specs.Parts.{joined, PutsPart}

-- ---- the parts of several lists

-- a part of the first list
pub puts-here : (xs ys : List (List ℕ)) (k : ℕ) (x old new : List ℕ) → k < length xs → get_or xs k [] ≡ x → new ≡ old ++ x → PutsPart (xs ++ ys) k old new true
puts-here xs ys k x old new low at is =
    let wide = length-append xs ys in
    (omega (arith, low, wide), is ∙ ap (λ t. old ++ t) (sym (get_or_append_left xs ys [] k low ∙ at)))

-- one of the others
pub puts-later : (xs ys : List (List ℕ)) (k : ℕ) (old new : List ℕ) (more : Bool) → length xs ≤ k → PutsPart ys (k - length xs) old new more
    → PutsPart (xs ++ ys) k old new more
puts-later xs ys k old new true high puts =
    let wide = length-append xs ys in
    (omega (arith, puts.0, high, wide), puts.1 ∙ ap (λ t. old ++ t) (sym (get_or-append_right xs ys k [] high)))
puts-later xs ys k old new false high puts = let wide = length-append xs ys in (omega (arith, puts.0, high, wide), puts.1)

-- ---- how many parts there are

pub count-numbered : {X : Type 0} (f : ℕ → X → List ℕ) (xs : List X) (ys : List (List ℕ)) → length (numbered f 0 xs ++ ys) ≡ length xs + length ys
count-numbered f xs ys = length-append (numbered f 0 xs) ys ∙ ap (λ n. n + length ys) (length-numbered f 0 xs)

pub count-mapped : {X : Type 0} (f : X → List ℕ) (xs : List X) (ys : List (List ℕ)) → length (map f xs ++ ys) ≡ length xs + length ys
count-mapped f xs ys = length-append (map f xs) ys ∙ ap (λ n. n + length ys) (length-map xs f)

-- ---- the text of parts, where that of those behind is known

pub joined-numbered : {X Y : Type 0} (line : Y → List ℕ) (f : ℕ → X → Y) (n : ℕ) (xs : List X) (ys : List (List ℕ)) {rest : List ℕ} → joined ys ≡ rest
    → joined (numbered (λ k x. line (f k x)) n xs ++ ys) ≡ flat_map line (numbered f n xs) ++ rest
joined-numbered line f n [] ys e = e
joined-numbered line f n (x ∷ xs) ys {rest} e =
    ap (λ l. line (f n x) ++ l) (joined-numbered line f (n + 1) xs ys e) ∙ sym (append_assoc (line (f n x)) (flat_map line (numbered f (n + 1) xs)) rest)

pub joined-mapped : {X Y : Type 0} (line : Y → List ℕ) (f : X → Y) (xs : List X) (ys : List (List ℕ)) {rest : List ℕ} → joined ys ≡ rest
    → joined (map (λ x. line (f x)) xs ++ ys) ≡ flat_map line (map f xs) ++ rest
joined-mapped line f [] ys e = e
joined-mapped line f (x ∷ xs) ys {rest} e =
    ap (λ l. line (f x) ++ l) (joined-mapped line f xs ys e) ∙ sym (append_assoc (line (f x)) (flat_map line (map f xs)) rest)

pub joined-each : {X : Type 0} (line : X → List ℕ) (xs : List X) (ys : List (List ℕ)) {rest : List ℕ} → joined ys ≡ rest
    → joined (map line xs ++ ys) ≡ flat_map line xs ++ rest
joined-each line [] ys e = e
joined-each line (x ∷ xs) ys {rest} e = ap (λ l. line x ++ l) (joined-each line xs ys e) ∙ sym (append_assoc (line x) (flat_map line xs) rest)

pub joined-one : (x : List ℕ) (ys : List (List ℕ)) {rest : List ℕ} → joined ys ≡ rest → joined (x ∷ ys) ≡ x ++ rest
joined-one x ys e = ap (λ l. x ++ l) e

pub joined-last : (x : List ℕ) → joined (x ∷ []) ≡ x
joined-last x = append-nil x
