-- Words that may be written, and lines of them.
use Rattle.std.proofs.Common.{◌≡◌, ◌≢◌, ℕ, ◌+◌, ◌%◌, ◌<◌, ◌≤◌, ◌^◌, Bool, true, false, not, ◌==◌, ◌&&◌, ◌||◌, List, [], ◌∷◌, refl, ◌∙◌, arith, ⊎_elim}
use Rattle.std.specs.Prelude.{nat_le, decimal}
use Rattle.std.specs.List.{list_all}
use Rattle.std.proofs.lemmas.Bool.{and_parts, and_from, or_cases, eqb-true, leb-true, ne_eqb, not-true, eqb-false, le-leb}
use Rattle.std.proofs.lemmas.Fmt.{decimal_by_steps}
use Rattle.std.proofs.lemmas.List.Folds.{list_all-append}
use Rattle.base_types.specs.Names.{is_letter, is_digit, is_name_byte, is_name}
use Rattle.blif_text.specs.Lines.{is_blank, is_word_byte}

-- a word: at least one byte, each of which a word may have
abbrev pub is_word : List ℕ → Bool
is_word [] = false
is_word (c ∷ cs) = is_word_byte c && list_all is_word_byte cs

-- a byte that a line may have
abbrev pub is_line_byte : ℕ → Bool
is_line_byte c = is_blank c || is_word_byte c

-- what a byte of a word is not
pub word_byte_is : (c : ℕ) → is_word_byte c ≡ true → (33 ≤ c) × (c ≤ 126) × (c ≢ 35) × (c ≢ 92)
word_byte_is c fits =
    let a = and_parts (nat_le 33 c && nat_le c 126 && not (c == 35)) (not (c == 92)) fits in
    let b = and_parts (nat_le 33 c && nat_le c 126) (not (c == 35)) a.0 in
    let d = and_parts (nat_le 33 c) (nat_le c 126) b.0 in
    (leb-true 33 c d.0, leb-true c 126 d.1, eqb-false c 35 (not-true (c == 35) b.1), eqb-false c 92 (not-true (c == 92) a.1))

-- what a byte of a line is not: a line feed, a carriage return, `#`, `\`
pub record NoMark (c : ℕ) : Type 0 where
  pub feed : (c == 10) ≡ false
  pub return : (c == 13) ≡ false
  pub comment : (c == 35) ≡ false
  pub join : (c == 92) ≡ false

no_mark : (c : ℕ) → (c ≢ 10) → (c ≢ 13) → (c ≢ 35) → (c ≢ 92) → NoMark c
no_mark c f r m j = record { feed = ne_eqb c 10 f; return = ne_eqb c 13 r; comment = ne_eqb c 35 m; join = ne_eqb c 92 j }

pub line_byte_is : (c : ℕ) → is_line_byte c ≡ true → NoMark c
line_byte_is c fits = ⊎_elim
    (λ blank. ⊎_elim
    (λ e. let n : c ≡ 32 = eqb-true c 32 e in no_mark c (omega arith) (omega arith) (omega arith) (omega arith))
    (λ e. let n : c ≡ 9 = eqb-true c 9 e in no_mark c (omega arith) (omega arith) (omega arith) (omega arith))
    (or_cases (c == 32) (c == 9) blank))
    (λ word. let w = word_byte_is c word in no_mark c (omega arith) (omega arith) w.2 w.3)
    (or_cases (is_blank c) (is_word_byte c) fits)

-- a byte of a word is no blank
pub word_byte_not_blank : (c : ℕ) → is_word_byte c ≡ true → is_blank c ≡ false
word_byte_not_blank c fits =
    let w = word_byte_is c fits in rw (ne_eqb c 32 (omega arith), ne_eqb c 9 (omega arith)) refl

pub word_byte_from : (c : ℕ) → 33 ≤ c → c ≤ 126 → (c ≢ 35) → (c ≢ 92) → is_word_byte c ≡ true
word_byte_from c low high m j =
    rw (le-leb 33 c low, le-leb c 126 high, ne_eqb c 35 m, ne_eqb c 92 j) refl

between : (low c high : ℕ) → (nat_le low c && nat_le c high) ≡ true → (low ≤ c) × (c ≤ high)
between low c high fits =
    let parts = and_parts (nat_le low c) (nat_le c high) fits in (leb-true low c parts.0, leb-true c high parts.1)

-- a letter, a digit and `_` are bytes of words
letter_is_word_byte : (c : ℕ) → is_letter c ≡ true → is_word_byte c ≡ true
letter_is_word_byte c fits = ⊎_elim
    (λ upper. let b = between 65 c 90 upper in word_byte_from c (omega arith) (omega arith) (omega arith) (omega arith))
    (λ lower. let b = between 97 c 122 lower in word_byte_from c (omega arith) (omega arith) (omega arith) (omega arith))
    (or_cases (nat_le 65 c && nat_le c 90) (nat_le 97 c && nat_le c 122) fits)

digit_is_word_byte : (c : ℕ) → is_digit c ≡ true → is_word_byte c ≡ true
digit_is_word_byte c fits =
    let b = between 48 c 57 fits in word_byte_from c (omega arith) (omega arith) (omega arith) (omega arith)

pub name_byte_is_word_byte : (c : ℕ) → is_name_byte c ≡ true → is_word_byte c ≡ true
name_byte_is_word_byte c fits = ⊎_elim
    (λ either. ⊎_elim (letter_is_word_byte c) (digit_is_word_byte c) (or_cases (is_letter c) (is_digit c) either))
    (λ e. let n : c ≡ 95 = eqb-true c 95 e in word_byte_from c (omega arith) (omega arith) (omega arith) (omega arith))
    (or_cases (is_letter c || is_digit c) (c == 95) fits)

pub list_all-weaker : {X : Type 0} (p q : X → Bool) (xs : List X) → ((x : X) → p x ≡ true → q x ≡ true) → list_all p xs ≡ true → list_all q xs ≡ true
list_all-weaker p q [] weaker all = refl
list_all-weaker p q (x ∷ xs) weaker all =
    let parts = and_parts (p x) (list_all p xs) all in
    and_from (q x) (list_all q xs) (weaker x parts.0) (list_all-weaker p q xs weaker parts.1)

-- a name of a net is a word
pub is_word-name : (name : List ℕ) → is_name name ≡ true → is_word name ≡ true
is_word-name [] fits = cc
is_word-name (c ∷ cs) fits =
    let parts = and_parts (is_letter c) (list_all is_name_byte cs) fits in
    and_from (is_word_byte c) (list_all is_word_byte cs) (letter_is_word_byte c parts.0)
    (list_all-weaker is_name_byte is_word_byte cs name_byte_is_word_byte parts.1)

-- the decimal digits are bytes of words
pub decimal_bytes : (n : ℕ) → n < 2 ^ 64 → list_all is_word_byte (decimal n) ≡ true
decimal_bytes n small = decimal_by_steps (λ m ds. list_all is_word_byte ds ≡ true)
    (λ m low. and_from (is_word_byte (48 + m)) true (word_byte_from (48 + m) (omega arith) (omega arith) (omega arith) (omega arith)) refl)
    (λ m ds high ih.
    let last : is_word_byte (48 + m % 10) ≡ true = word_byte_from (48 + m % 10) (omega arith) (omega arith) (omega arith) (omega arith) in
    list_all-append is_word_byte ds ((48 + m % 10) ∷ [])
    ∙ and_from (list_all is_word_byte ds) (is_word_byte (48 + m % 10) && true) ih (and_from (is_word_byte (48 + m % 10)) true last refl))
    n small
