-- Texts that are put together part by part, and given away piece by piece.
use Rattle.std.proofs.Common.{◌≡◌, ℕ, ◌<◌, ◌≤◌, ◌⊎◌, inl, inr, true, false, ◌==◌, List, [], ◌∷◌, ◌++◌, length, take, drop, sym, ap, ◌∙◌, arith, append_assoc}
use Rattle.std.proofs.lemmas.List.{append-nil, length-take, take-append-drop, take-append-le, drop-append-le}

-- ---- from part to part

-- what is put behind the old is the front of what was to come
pub grown : (old new a b whole : List ℕ) → new ≡ old ++ a → whole ≡ a ++ b → new ++ b ≡ old ++ whole
grown old new a b whole e w =
    ap (λ t. t ++ b) e ∙ append_assoc old a b ∙ ap (λ t. old ++ t) (sym w)

-- ---- the next piece of a whole: that of a text in front of it which goes as far as a piece, or to the end

pub piece-front : (n : ℕ) (t r whole : List ℕ) → t ++ r ≡ whole → (n ≤ length t) ⊎ (r ≡ []) → take n t ≡ take n whole
piece-front n t r whole e (inl h) = sym (take-append-le n t r h) ∙ ap (take n) e
piece-front n t r whole e (inr h) = ap (take n) (sym (append-nil t) ∙ ap (λ l. t ++ l) (sym h) ∙ e)

-- what is to come behind it
pub piece-back : (n : ℕ) (t r whole : List ℕ) → t ++ r ≡ whole → (n ≤ length t) ⊎ (r ≡ []) → drop n t ++ r ≡ drop n whole
piece-back n t r whole e (inl h) = sym (drop-append-le n t r h) ∙ ap (drop n) e
piece-back n t r whole e (inr h) =
    ap (λ l. drop n t ++ l) h ∙ append-nil (drop n t) ∙ ap (drop n) (sym (append-nil t) ∙ ap (λ l. t ++ l) (sym h) ∙ e)

none-left : (n : ℕ) (t r whole : List ℕ) → 0 < n → length t ≡ 0 → t ++ r ≡ whole → (n ≤ length t) ⊎ (r ≡ []) → whole ≡ []
none-left n t r whole some none e (inl h) = absurd (omega (arith, none))
none-left n (x ∷ t) r whole some none e (inr h) = absurd (omega (arith, none))
none-left n [] r whole some none e (inr h) = sym e ∙ h

-- where the text is empty, nothing is to come
pub piece-none : (n len : ℕ) (t r whole : List ℕ) → 0 < n → true ≡ (len == 0) → len ≡ length t → t ++ r ≡ whole → (n ≤ length t) ⊎ (r ≡ []) → whole ≡ []
piece-none n len t r whole some empty wide e full =
    let none : length t ≡ 0 = grind (arith, empty, wide) in
    none-left n t r whole some none e full

-- else the piece is not empty
pub piece-some : (n len : ℕ) (t : List ℕ) → 0 < n → false ≡ (len == 0) → len ≡ length t → 0 < length (take n t)
piece-some n len t some more wide =
    let filled : 0 < length t = grind (arith, more, wide) in
    rw (length-take n t) (omega (arith, some, filled))

-- ---- all pieces

-- the pieces so far, and the next one
pub pieces-join : (n : ℕ) (text old piece rest new whole : List ℕ) → text ++ old ≡ whole → piece ≡ take n old → rest ≡ drop n old → new ≡ text ++ piece
    → new ++ rest ≡ whole
pieces-join n text old piece rest new whole before p r more =
    ap (λ t. t ++ rest) more ∙ append_assoc text piece rest
    ∙ ap (λ l. text ++ l) (ap (λ l. l ++ rest) p ∙ ap (λ l. take n old ++ l) r ∙ take-append-drop n old) ∙ before
