-- A text of spelled statements is read back, whatever the statements are.
use Rattle.std.proofs.Common.{◌≡◌, ℕ, ◌+◌, Bool, true, false, ◌&&◌, List, [], ◌∷◌, ◌++◌, length, map, refl, ap, ◌∙◌, arith, append_assoc, Option, Some, None}
use Rattle.std.proofs.Common.{Ok}
use Rattle.std.specs.Prelude.{nat_le, flat_map, filter_map, codes}
use Rattle.std.specs.List.{list_all}
use Rattle.std.proofs.lemmas.Bool.{and_parts, and_from, leb-true, le-leb}
use Rattle.std.proofs.lemmas.List.{length-append}
use Rattle.std.proofs.lemmas.List.Folds.{list_all-append}
use Rattle.blif_text.specs.Lines.{text_lines, without_comment, Line, join, joined, is_word_byte, is_clean}
use Rattle.blif_text.specs.Statements.{Cell, Zero, One, Any, Statement, Model, Inputs, Outputs, Latch, Names, Row, End, table_of, cells_of, statement_of}
use Rattle.blif_text.specs.Statements.{Said, said_in, said, may_follow, first_refused, refused_line}
use Rattle.blif_text.specs.Circuits.{reading, statements, driven_again, not_driven, circuit_of}
use Rattle.blif_text.specs.Spelled.{line_text, spelled, text_of, cell_byte}
use Rattle.blif_text.proofs.WordBytes.{is_word}
use Rattle.blif_text.proofs.SpelledLines.{spaced, line_text-spaced, text_lines-feed, without_comment-clean, ends_with-clean, words-spaced, clean-spaced}

-- ---- statements that can be spelled

abbrev pub spellable : Statement → Bool
spellable (Model name) = is_word name
spellable (Inputs names) = list_all is_word names
spellable (Outputs names) = list_all is_word names
spellable (Latch source target init) = is_word source && is_word target
spellable (Names inputs output) = list_all is_word inputs && is_word output && nat_le (length inputs) 8
spellable (Row cells) = true
spellable End = true

-- one cell is one byte
cells_of-bytes : (cells : List Cell) → cells_of (map cell_byte cells) ≡ Some cells
cells_of-bytes [] = refl
cells_of-bytes (Zero ∷ cells) = rw (cells_of-bytes cells) refl
cells_of-bytes (One ∷ cells) = rw (cells_of-bytes cells) refl
cells_of-bytes (Any ∷ cells) = rw (cells_of-bytes cells) refl

word_bytes-cells : (cells : List Cell) → list_all is_word_byte (map cell_byte cells) ≡ true
word_bytes-cells [] = refl
word_bytes-cells (Zero ∷ cells) = word_bytes-cells cells
word_bytes-cells (One ∷ cells) = word_bytes-cells cells
word_bytes-cells (Any ∷ cells) = word_bytes-cells cells

pub table_of-names : (inputs : List (List ℕ)) (output : List ℕ) → table_of (inputs ++ output ∷ []) ≡ Some (Names inputs output)
table_of-names [] output = refl
table_of-names (name ∷ inputs) output = rw (table_of-names inputs output) refl

-- what a line of words says
said_in-words : (n : ℕ) (word : List ℕ) (more : List (List ℕ)) → list_all is_word (word ∷ more) ≡ true
    → said_in (record { number = n; bytes = spaced (word ∷ more) }) ≡ record { number = n; says = statement_of (word ∷ more) } ∷ []
said_in-words n word more fit =
    rw (clean-spaced (word ∷ more) fit, words-spaced word more fit) refl

-- a spelled statement says itself
said_in-spelled : (n : ℕ) (s : Statement) → spellable s ≡ true
    → said_in (record { number = n; bytes = spaced (spelled s) }) ≡ record { number = n; says = Some s } ∷ []
said_in-spelled n (Model name) fits =
    said_in-words n (codes ".model") (name ∷ []) (and_from (is_word name) true fits refl)
said_in-spelled n (Inputs names) fits = said_in-words n (codes ".inputs") names fits
said_in-spelled n (Outputs names) fits = said_in-words n (codes ".outputs") names fits
said_in-spelled n (Latch source target false) fits =
    let parts = and_parts (is_word source) (is_word target) fits in
    said_in-words n (codes ".latch") (source ∷ target ∷ codes "0" ∷ [])
    (and_from (is_word source) (is_word target && true) parts.0 (and_from (is_word target) true parts.1 refl))
said_in-spelled n (Latch source target true) fits =
    let parts = and_parts (is_word source) (is_word target) fits in
    said_in-words n (codes ".latch") (source ∷ target ∷ codes "1" ∷ [])
    (and_from (is_word source) (is_word target && true) parts.0 (and_from (is_word target) true parts.1 refl))
said_in-spelled n (Names inputs output) fits =
    let parts = and_parts (list_all is_word inputs && is_word output) (nat_le (length inputs) 8) fits in
    let words = and_parts (list_all is_word inputs) (is_word output) parts.0 in
    let few = leb-true (length inputs) 8 parts.1 in
    let all : list_all is_word (inputs ++ output ∷ []) ≡ true = list_all-append is_word inputs (output ∷ [])
    ∙ and_from (list_all is_word inputs) (is_word output && true) words.0 (and_from (is_word output) true words.1 refl) in
    let short : nat_le (length (inputs ++ output ∷ [])) 9 ≡ true = le-leb _ 9 (omega (arith, length-append inputs (output ∷ []))) in
    said_in-words n (codes ".names") (inputs ++ output ∷ []) all ∙ rw (short, table_of-names inputs output) refl
said_in-spelled n (Row []) fits = refl
said_in-spelled n (Row (Zero ∷ cells)) fits =
    said_in-words n (map cell_byte (Zero ∷ cells)) (codes "1" ∷ []) (and_from (list_all is_word_byte (map cell_byte cells)) true (word_bytes-cells cells) refl)
    ∙ rw (cells_of-bytes cells) refl
said_in-spelled n (Row (One ∷ cells)) fits =
    said_in-words n (map cell_byte (One ∷ cells)) (codes "1" ∷ []) (and_from (list_all is_word_byte (map cell_byte cells)) true (word_bytes-cells cells) refl)
    ∙ rw (cells_of-bytes cells) refl
said_in-spelled n (Row (Any ∷ cells)) fits =
    said_in-words n (map cell_byte (Any ∷ cells)) (codes "1" ∷ []) (and_from (list_all is_word_byte (map cell_byte cells)) true (word_bytes-cells cells) refl)
    ∙ rw (cells_of-bytes cells) refl
said_in-spelled n End fits = refl

-- the words of a spelled statement are words
words-spelled : (s : Statement) → spellable s ≡ true → list_all is_word (spelled s) ≡ true
words-spelled (Model name) fits = and_from (is_word name) true fits refl
words-spelled (Inputs names) fits = fits
words-spelled (Outputs names) fits = fits
words-spelled (Latch source target false) fits =
    let parts = and_parts (is_word source) (is_word target) fits in
    and_from (is_word source) (is_word target && true) parts.0 (and_from (is_word target) true parts.1 refl)
words-spelled (Latch source target true) fits =
    let parts = and_parts (is_word source) (is_word target) fits in
    and_from (is_word source) (is_word target && true) parts.0 (and_from (is_word target) true parts.1 refl)
words-spelled (Names inputs output) fits =
    let parts = and_parts (list_all is_word inputs && is_word output) (nat_le (length inputs) 8) fits in
    let words = and_parts (list_all is_word inputs) (is_word output) parts.0 in
    list_all-append is_word inputs (output ∷ [])
    ∙ and_from (list_all is_word inputs) (is_word output && true) words.0 (and_from (is_word output) true words.1 refl)
words-spelled (Row []) fits = refl
words-spelled (Row (Zero ∷ cells)) fits = and_from (list_all is_word_byte (map cell_byte cells)) true (word_bytes-cells cells) refl
words-spelled (Row (One ∷ cells)) fits = and_from (list_all is_word_byte (map cell_byte cells)) true (word_bytes-cells cells) refl
words-spelled (Row (Any ∷ cells)) fits = and_from (list_all is_word_byte (map cell_byte cells)) true (word_bytes-cells cells) refl
words-spelled End fits = refl

-- ---- the lines of a text of statements

abbrev bare_lines : List Statement → List (List ℕ)
bare_lines ss = map (λ s. spaced (spelled s)) ss

clean-bare_lines : (ss : List Statement) → list_all spellable ss ≡ true → list_all is_clean (bare_lines ss) ≡ true
clean-bare_lines [] fit = refl
clean-bare_lines (s ∷ ss) fit =
    let parts = and_parts (spellable s) (list_all spellable ss) fit in
    and_from (is_clean (spaced (spelled s))) (list_all is_clean (bare_lines ss)) (clean-spaced (spelled s) (words-spelled s parts.0))
    (clean-bare_lines ss parts.1)

text_lines-text_of : (ss : List Statement) → list_all spellable ss ≡ true → text_lines (text_of ss) ≡ bare_lines ss
text_lines-text_of [] fit = refl
text_lines-text_of (s ∷ ss) fit =
    let parts = and_parts (spellable s) (list_all spellable ss) fit in
    let line : line_text (spelled s) ++ text_of ss ≡ spaced (spelled s) ++ 10 ∷ text_of ss = ap (λ t. t ++ text_of ss) (line_text-spaced (spelled s))
    ∙ append_assoc (spaced (spelled s)) (10 ∷ []) (text_of ss) in
    ap text_lines line ∙ text_lines-feed (spaced (spelled s)) (text_of ss) (clean-spaced (spelled s) (words-spelled s parts.0))
    ∙ ap (λ ls. spaced (spelled s) ∷ ls) (text_lines-text_of ss parts.1)

without_comments : (ls : List (List ℕ)) → list_all is_clean ls ≡ true → map without_comment ls ≡ ls
without_comments [] clean = refl
without_comments (l ∷ ls) clean =
    let parts = and_parts (is_clean l) (list_all is_clean ls) clean in
    rw (without_comment-clean l parts.0, without_comments ls parts.1) refl

-- lines with their numbers, none joined to the next
abbrev lines_from : ℕ → List (List ℕ) → List Line
lines_from n [] = []
lines_from n (l ∷ ls) = record { number = n; bytes = l } ∷ lines_from (n + 1) ls

joined-clean : (n : ℕ) (ls : List (List ℕ)) → list_all is_clean ls ≡ true → joined n ls ≡ lines_from n ls
joined-clean n [] clean = refl
joined-clean n (l ∷ []) clean = refl
joined-clean n (l ∷ m ∷ ls) clean =
    let parts = and_parts (is_clean l) (list_all is_clean (m ∷ ls)) clean in
    ap (join n l) (joined-clean (n + 1) (m ∷ ls) parts.1) ∙ rw (ends_with-clean l parts.0) refl

-- statements with the numbers of their lines
abbrev pub said_from : ℕ → List Statement → List Said
said_from n [] = []
said_from n (s ∷ ss) = record { number = n; says = Some s } ∷ said_from (n + 1) ss

said_in-lines : (n : ℕ) (ss : List Statement) → list_all spellable ss ≡ true → flat_map said_in (lines_from n (bare_lines ss)) ≡ said_from n ss
said_in-lines n [] fit = refl
said_in-lines n (s ∷ ss) fit =
    let parts = and_parts (spellable s) (list_all spellable ss) fit in
    let here = said_in-spelled n s parts.0 in
    let rest = said_in-lines (n + 1) ss parts.1 in
    ap (λ x. x ++ flat_map said_in (lines_from (n + 1) (bare_lines ss))) here ∙ ap (λ x. record { number = n; says = Some s } ∷ x) rest

-- what the lines of the text say is the statements
pub said-text_of : (ss : List Statement) → list_all spellable ss ≡ true → said (text_of ss) ≡ said_from 1 ss
said-text_of ss fit =
    let clean = clean-bare_lines ss fit in
    ap (λ ls. flat_map said_in (joined 1 (map without_comment ls))) (text_lines-text_of ss fit)
    ∙ ap (λ ls. flat_map said_in (joined 1 ls)) (without_comments (bare_lines ss) clean)
    ∙ ap (flat_map said_in) (joined-clean 1 (bare_lines ss) clean) ∙ said_in-lines 1 ss fit

statements-said_from : (n : ℕ) (ss : List Statement) → filter_map (λ line. line.says) (said_from n ss) ≡ ss
statements-said_from n [] = refl
statements-said_from n (s ∷ ss) = ap (λ x. s ∷ x) (statements-said_from (n + 1) ss)

-- ---- the place of each statement

-- whether each statement may stand behind the one before it, and the last is `.end`
abbrev pub accepted : Option Statement → List Statement → Bool
accepted (Some End) [] = true
accepted before [] = false
accepted before (s ∷ ss) = may_follow before s && accepted (Some s) ss

first_refused-end : (after : ℕ) (before : Option Statement) → accepted before [] ≡ true → first_refused after before [] ≡ None
first_refused-end after (Some End) fits = refl
first_refused-end after None fits = cc
first_refused-end after (Some (Model name)) fits = cc
first_refused-end after (Some (Inputs names)) fits = cc
first_refused-end after (Some (Outputs names)) fits = cc
first_refused-end after (Some (Latch source target init)) fits = cc
first_refused-end after (Some (Names inputs output)) fits = cc
first_refused-end after (Some (Row cells)) fits = cc

first_refused-said_from : (after n : ℕ) (before : Option Statement) (ss : List Statement) → accepted before ss ≡ true
    → first_refused after before (said_from n ss) ≡ None
first_refused-said_from after n before [] fits = first_refused-end after before fits
first_refused-said_from after n before (s ∷ ss) fits =
    let parts = and_parts (may_follow before s) (accepted (Some s) ss) fits in
    rw parts.0 (first_refused-said_from after (n + 1) (Some s) ss parts.1)

-- ---- the reading

pub reading-text_of : (ss : List Statement) → list_all spellable ss ≡ true → accepted None ss ≡ true → driven_again ss ≡ None → not_driven ss ≡ None
    → reading (text_of ss) ≡ Ok (circuit_of ss)
reading-text_of ss fit place once all =
    let lines = said-text_of ss fit in
    let same : statements (text_of ss) ≡ ss = ap (filter_map (λ line. line.says)) lines ∙ statements-said_from 1 ss in
    let placed : refused_line (text_of ss) ≡ None = ap (first_refused (length (text_lines (text_of ss)) + 1) None) lines
    ∙ first_refused-said_from (length (text_lines (text_of ss)) + 1) 1 None ss place in
    rw (same, placed, once, all) refl
