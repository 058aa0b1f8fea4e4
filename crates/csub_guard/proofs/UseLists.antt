-- The uses of pieces one behind another.
use Rattle.std.proofs.Common.{◌≡◌, ℕ, ◌+◌, true, false, List, [], ◌∷◌, ◌++◌, length, sym, ap, ◌∙◌, arith, append_assoc}
use Rattle.std.specs.Prelude.{flat_map}
use Rattle.csub_text.specs.Trees.{Assign}
use Rattle.csub_guard.specs.Names.{Place, Outside, Half, Use, Tested, piece_uses}
use Rattle.csub_guard.specs.Trees.{Piece, One, If}

pub uses-append : (uses : Place → Assign → List Use) (k : ℕ) (xs ys : List Piece)
    → piece_uses uses k (xs ++ ys) ≡ piece_uses uses k xs ++ piece_uses uses (k + length xs) ys
uses-append uses k [] ys = ap (λ n. piece_uses uses n ys) (let e : k ≡ k + 0 = omega arith in e)
uses-append uses k (One a ∷ xs) ys =
    let e : k + 1 + length xs ≡ k + length (One a ∷ xs) = omega arith in
    ap (λ l. uses Outside a ++ l) (uses-append uses (k + 1) xs ys ∙ ap (λ n. piece_uses uses (k + 1) xs ++ piece_uses uses n ys) e)
    ∙ sym (append_assoc (uses Outside a) (piece_uses uses (k + 1) xs) (piece_uses uses (k + length (One a ∷ xs)) ys))
uses-append uses k (If test first second ∷ xs) ys =
    let e : k + 1 + length xs ≡ k + length (If test first second ∷ xs) = omega arith in
    let front = (Tested test ∷ flat_map (uses (Half k test true)) first) ++ flat_map (uses (Half k test false)) second in
    ap (λ l. front ++ l) (uses-append uses (k + 1) xs ys ∙ ap (λ n. piece_uses uses (k + 1) xs ++ piece_uses uses n ys) e)
    ∙ sym (append_assoc front (piece_uses uses (k + 1) xs) (piece_uses uses (k + length (If test first second ∷ xs)) ys))
