-- The words of a line, one after another.
use Rattle.std.proofs.Common.{◌≡◌, ℕ, ◌+◌, ◌<◌, Bool, true, false, not, List, [], ◌∷◌, length, take, drop, get_or, refl, sym, ap, ◌∙◌, subst, arith, suc}
use Rattle.std.specs.Prelude.{filter}
use Rattle.std.specs.List.{prefix_len, position_or_len}
use Rattle.std.proofs.Math.Seq.{drop-cons}
use Rattle.std.proofs.lemmas.List.{length-drop}
use Rattle.std.proofs.lemmas.List.Sums.{prefix_len_stops}
use Rattle.blif_text.specs.Lines.{in_front, is_blank, pieces, is_empty, words}

-- blanks in front change nothing
pub words-skip : (line : List ℕ) → words (drop (prefix_len is_blank line) line) ≡ words line
words-skip [] = refl
words-skip (c ∷ cs) = go (is_blank c) refl (words-skip cs)
  where
    go : (b : Bool) → is_blank c ≡ b → words (drop (prefix_len is_blank cs) cs) ≡ words cs
        → words (drop (prefix_len is_blank (c ∷ cs)) (c ∷ cs)) ≡ words (c ∷ cs)
    go true e more =
        let n : 1 + prefix_len is_blank cs ≡ suc (prefix_len is_blank cs) = omega arith in
        rw (e, n) more
    go false e more = rw e (rw e refl)

-- the first piece, the pieces behind it, and the words of what stands behind it
record FirstPiece (line : List ℕ) : Type 0 where
  behind : List (List ℕ)
  first : pieces line ≡ take (position_or_len is_blank line) line ∷ behind
  words_behind : filter (λ piece. not (is_empty piece)) behind ≡ words (drop (position_or_len is_blank line) line)

pieces-first : (line : List ℕ) → FirstPiece line
pieces-first [] = record { behind = []; first = refl; words_behind = refl }
pieces-first (c ∷ cs) = go (is_blank c) refl (pieces-first cs)
  where
    go : (b : Bool) → is_blank c ≡ b → FirstPiece cs → FirstPiece (c ∷ cs)
    go true e more = record { behind = pieces cs; first = rw e refl; words_behind = rw e (rw e refl) }
    go false e more =
        let n : 1 + position_or_len is_blank cs ≡ suc (position_or_len is_blank cs) = omega arith in
        record { behind = more.behind; first = rw (e, n) (ap (in_front c) more.first); words_behind = rw (e, n) more.words_behind }

-- a line that begins with a byte of a word
words-first : (c : ℕ) (cs : List ℕ) → is_blank c ≡ false
    → words (c ∷ cs) ≡ take (position_or_len is_blank (c ∷ cs)) (c ∷ cs) ∷ words (drop (position_or_len is_blank (c ∷ cs)) (c ∷ cs))
words-first c cs e =
    let p = pieces-first (c ∷ cs) in
    let n : 1 + position_or_len is_blank cs ≡ suc (position_or_len is_blank cs) = omega arith in
    let some : not (is_empty (take (position_or_len is_blank (c ∷ cs)) (c ∷ cs))) ≡ true = rw (e, n) refl in
    ap (filter (λ piece. not (is_empty piece))) p.first ∙ rw some (ap (λ l. take (position_or_len is_blank (c ∷ cs)) (c ∷ cs) ∷ l) p.words_behind)

-- the first word of a line, and the words of what stands behind it
pub first_word-some : (line text : List ℕ) → text ≡ drop (prefix_len is_blank line) line → 0 < length text
    → words line ≡ take (position_or_len is_blank text) text ∷ words (drop (position_or_len is_blank text) text)
first_word-some line text is some =
    let n = prefix_len is_blank line in
    let low : n < length line = omega (arith, length-drop n line, ap length is) in
    let first : is_blank (get_or line n 0) ≡ false = prefix_len_stops is_blank line 0 low in
    let parts : get_or line n 0 ∷ drop (suc n) line ≡ text = sym (drop-cons line n 0 low) ∙ sym is in
    sym (words-skip line) ∙ ap words (sym is)
    ∙ subst (λ t. words t ≡ take (position_or_len is_blank t) t ∷ words (drop (position_or_len is_blank t) t)) parts
    (words-first (get_or line n 0) (drop (suc n) line) first)

-- the length of a first word
pub position-some : (line text : List ℕ) → text ≡ drop (prefix_len is_blank line) line → 0 < length text → 0 < position_or_len is_blank text
position-some line text is some =
    let n = prefix_len is_blank line in
    let low : n < length line = omega (arith, length-drop n line, ap length is) in
    let first : is_blank (get_or line n 0) ≡ false = prefix_len_stops is_blank line 0 low in
    let parts : get_or line n 0 ∷ drop (suc n) line ≡ text = sym (drop-cons line n 0 low) ∙ sym is in
    subst (λ t. 0 < position_or_len is_blank t) parts (rw first (omega arith))

-- a line of blanks has no words
pub first_word-none : (line text : List ℕ) → text ≡ drop (prefix_len is_blank line) line → length text ≡ 0 → words line ≡ []
first_word-none line [] is none = sym (words-skip line) ∙ ap words (sym is)
first_word-none line (c ∷ cs) is none = absurd (omega arith)
