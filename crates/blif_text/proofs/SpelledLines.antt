-- A line of words with one space between them has these words.
use Rattle.std.proofs.Common.{◌≡◌, ℕ, true, false, not, ◌==◌, List, [], ◌∷◌, ◌++◌, refl, sym, ap, ◌∙◌, append_assoc}
use Rattle.std.specs.Prelude.{flat_map, filter}
use Rattle.std.specs.List.{list_all}
use Rattle.std.proofs.lemmas.Bool.{and_parts, and_from, or_right}
use Rattle.std.proofs.lemmas.List.{append-nil}
use Rattle.std.proofs.lemmas.List.Sums.{take_while-cons}
use Rattle.std.proofs.lemmas.List.Folds.{list_all-append}
use Rattle.blif_text.specs.Lines.{text_lines, without_comment, ends_with, is_blank, is_word_byte, is_clean, pieces, is_empty, words}
use Rattle.blif_text.specs.Spelled.{line_text}
use Rattle.blif_text.proofs.WordBytes.{is_word, is_line_byte, line_byte_is, word_byte_not_blank, list_all-weaker}

-- ---- one line

-- the words of a line with one space between them
abbrev pub spaced : List (List ℕ) → List ℕ
spaced [] = []
spaced (word ∷ words) = word ++ flat_map (λ w. 32 ∷ w) words

pub line_text-spaced : (line : List (List ℕ)) → line_text line ≡ spaced line ++ 10 ∷ []
line_text-spaced [] = refl
line_text-spaced (word ∷ words) = sym (append_assoc word (flat_map (λ w. 32 ∷ w) words) (10 ∷ []))

pub text_lines-feed : (line text : List ℕ) → is_clean line ≡ true → text_lines (line ++ 10 ∷ text) ≡ line ∷ text_lines text
text_lines-feed [] text clean = refl
text_lines-feed (c ∷ line) text clean =
    let parts = and_parts (is_line_byte c) (is_clean line) clean in
    let mark = line_byte_is c parts.0 in
    let rest = text_lines-feed line text parts.1 in
    rw (rest, mark.feed, mark.return) refl

pub without_comment-clean : (line : List ℕ) → is_clean line ≡ true → without_comment line ≡ line
without_comment-clean [] clean = refl
without_comment-clean (c ∷ line) clean =
    let parts = and_parts (is_line_byte c) (is_clean line) clean in
    let mark = line_byte_is c parts.0 in
    take_while-cons (λ d. not (d == 35)) c line ∙ rw mark.comment (ap (λ l. c ∷ l) (without_comment-clean line parts.1))

pub ends_with-clean : (line : List ℕ) → is_clean line ≡ true → ends_with 92 line ≡ false
ends_with-clean [] clean = refl
ends_with-clean (c ∷ []) clean =
    let parts = and_parts (is_line_byte c) (is_clean []) clean in
    (line_byte_is c parts.0).join
ends_with-clean (c ∷ d ∷ line) clean =
    let parts = and_parts (is_line_byte c) (is_clean (d ∷ line)) clean in
    ends_with-clean (d ∷ line) parts.1

-- ---- words of a line

word_bytes : (word : List ℕ) → is_word word ≡ true → list_all is_word_byte word ≡ true
word_bytes [] fits = refl
word_bytes (c ∷ word) fits = fits

pieces-last : (word : List ℕ) → list_all is_word_byte word ≡ true → pieces word ≡ word ∷ []
pieces-last [] fits = refl
pieces-last (c ∷ word) fits =
    let parts = and_parts (is_word_byte c) (list_all is_word_byte word) fits in
    rw (pieces-last word parts.1, word_byte_not_blank c parts.0) refl

pieces-next : (word rest : List ℕ) → list_all is_word_byte word ≡ true → pieces (word ++ 32 ∷ rest) ≡ word ∷ pieces rest
pieces-next [] rest fits = refl
pieces-next (c ∷ word) rest fits =
    let parts = and_parts (is_word_byte c) (list_all is_word_byte word) fits in
    rw (pieces-next word rest parts.1, word_byte_not_blank c parts.0) refl

pieces-spaced : (word : List ℕ) (more : List (List ℕ)) → list_all is_word (word ∷ more) ≡ true → pieces (spaced (word ∷ more)) ≡ word ∷ more
pieces-spaced word [] fit =
    let parts = and_parts (is_word word) true fit in rw (append-nil word) (pieces-last word (word_bytes word parts.0))
pieces-spaced word (next ∷ more) fit =
    let parts = and_parts (is_word word) (list_all is_word (next ∷ more)) fit in
    pieces-next word (spaced (next ∷ more)) (word_bytes word parts.0) ∙ ap (λ l. word ∷ l) (pieces-spaced next more parts.1)

word_not_empty : (word : List ℕ) → is_word word ≡ true → is_empty word ≡ false
word_not_empty [] fits = sym fits
word_not_empty (c ∷ word) fits = refl

filter-words : (line : List (List ℕ)) → list_all is_word line ≡ true → filter (λ piece. not (is_empty piece)) line ≡ line
filter-words [] fit = refl
filter-words (word ∷ line) fit =
    let parts = and_parts (is_word word) (list_all is_word line) fit in
    rw (word_not_empty word parts.0) (ap (λ l. word ∷ l) (filter-words line parts.1))

pub words-spaced : (word : List ℕ) (more : List (List ℕ)) → list_all is_word (word ∷ more) ≡ true → words (spaced (word ∷ more)) ≡ word ∷ more
words-spaced word more fit = rw (pieces-spaced word more fit) (filter-words (word ∷ more) fit)

clean-word : (word : List ℕ) → is_word word ≡ true → is_clean word ≡ true
clean-word word fits = list_all-weaker is_word_byte is_line_byte word (λ c h. or_right (is_blank c) (is_word_byte c) h) (word_bytes word fits)

clean-behind : (more : List (List ℕ)) → list_all is_word more ≡ true → is_clean (flat_map (λ w. 32 ∷ w) more) ≡ true
clean-behind [] fit = refl
clean-behind (word ∷ more) fit =
    let parts = and_parts (is_word word) (list_all is_word more) fit in
    list_all-append is_line_byte word (flat_map (λ w. 32 ∷ w) more)
    ∙ and_from (is_clean word) (is_clean (flat_map (λ w. 32 ∷ w) more)) (clean-word word parts.0) (clean-behind more parts.1)

pub clean-spaced : (line : List (List ℕ)) → list_all is_word line ≡ true → is_clean (spaced line) ≡ true
clean-spaced [] fit = refl
clean-spaced (word ∷ more) fit =
    let parts = and_parts (is_word word) (list_all is_word more) fit in
    list_all-append is_line_byte word (flat_map (λ w. 32 ∷ w) more)
    ∙ and_from (is_clean word) (is_clean (flat_map (λ w. 32 ∷ w) more)) (clean-word word parts.0) (clean-behind more parts.1)
