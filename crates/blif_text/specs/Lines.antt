-- To believe: lines and words of a BLIF text, after the Berkeley Logic Interchange Format. Any list of bytes has lines,
-- and each line has words or bytes that no line may have.
use Rattle.std.specs.Prelude.{◌==◌, ℕ, ◌+◌, ◌-◌, Bool, true, false, not, ◌&&◌, ◌||◌, if◌then◌else◌, nat_le, List, []}
use Rattle.std.specs.Prelude.{◌∷◌, ◌++◌, length, take, map, filter, take_while}
use Rattle.std.specs.List.{list_all}

-- ---- lines

-- one more byte in front of a line
abbrev pub in_front : ℕ → List (List ℕ) → List (List ℕ)
in_front c [] = (c ∷ []) ∷ []
in_front c (l ∷ lines) = (c ∷ l) ∷ lines

abbrev pub begins_with : ℕ → List ℕ → Bool
begins_with b [] = false
begins_with b (c ∷ cs) = c == b

-- one more byte in front of a text with these lines: a line feed (10) ends the line before it, and a
-- carriage return (13) before a line feed is dropped
abbrev pub before_lines : ℕ → List ℕ → List (List ℕ) → List (List ℕ)
before_lines c text lines =
    if c == 10 then [] ∷ lines else (if c == 13 && begins_with 10 text then lines else in_front c lines)

-- the lines of a text. A line feed at the very end opens no further line, and an empty text has none.
abbrev pub text_lines : List ℕ → List (List ℕ)
text_lines [] = []
text_lines (c ∷ cs) = before_lines c cs (text_lines cs)

-- a line up to its comment, which `#` (35) begins
abbrev pub without_comment : List ℕ → List ℕ
without_comment line = take_while (λ c. not (c == 35)) line

-- a line, with the number of the line of the text that it begins in; the first one is 1
pub record Line : Type 0 where
  pub number : ℕ
  pub bytes : List ℕ

abbrev pub ends_with : ℕ → List ℕ → Bool
ends_with b [] = false
ends_with b (c ∷ []) = c == b
ends_with b (c ∷ d ∷ cs) = ends_with b (d ∷ cs)

-- A `\` (92) as the last byte of a line that has a next line is dropped, and joins the two with
-- nothing in its place. The joined line has the number of its first line.
abbrev pub join : ℕ → List ℕ → List Line → List Line
join n line [] = record { number = n; bytes = line } ∷ []
join n line (next ∷ lines) =
    if ends_with 92 line then record { number = n; bytes = take (length line - 1) line ++ next.bytes } ∷ lines
    else record { number = n; bytes = line } ∷ next ∷ lines

-- lines that are joined where a `\` says so, where n is the number of the first one
abbrev pub joined : ℕ → List (List ℕ) → List Line
joined n [] = []
joined n (line ∷ lines) = join n line (joined (n + 1) lines)

-- the lines of a text that are read: comments are taken out first, and then lines are joined
abbrev pub read_lines : List ℕ → List Line
read_lines text = joined 1 (map without_comment (text_lines text))

-- ---- words

-- a space or a tab
abbrev pub is_blank : ℕ → Bool
is_blank c = c == 32 || c == 9

-- a byte of a word: 33 to 126 other than `#` and `\`
abbrev pub is_word_byte : ℕ → Bool
is_word_byte c = nat_le 33 c && nat_le c 126 && not (c == 35) && not (c == 92)

-- no byte of the line is one that no line may have
abbrev pub is_clean : List ℕ → Bool
is_clean line = list_all (λ c. is_blank c || is_word_byte c) line

-- one more byte in front of pieces that blanks separate
abbrev pub before_pieces : ℕ → List (List ℕ) → List (List ℕ)
before_pieces c pieces = if is_blank c then [] ∷ pieces else in_front c pieces

-- what stands between the blanks of a line, nothing among it
abbrev pub pieces : List ℕ → List (List ℕ)
pieces [] = [] ∷ []
pieces (c ∷ cs) = before_pieces c (pieces cs)

abbrev pub is_empty : List ℕ → Bool
is_empty [] = true
is_empty (c ∷ cs) = false

-- the words of a line: spaces and tabs separate them
abbrev pub words : List ℕ → List (List ℕ)
words line = filter (λ piece. not (is_empty piece)) (pieces line)
