-- To believe: the tokens of an embedded text, each as long as it can be: words, numbers, and marks of one or two bytes.
-- Spaces and comments are none. C has longer marks too, like `&&`. No component has two marks in a row that C joins.
use Rattle.std.specs.Prelude.{ℕ, ◌+◌, ◌==◌, Bool, ◌||◌, List, [], ◌∷◌, take, map}
use Rattle.std.specs.Prelude.{Option, Some, None, if◌then◌else◌}
use Rattle.std.specs.List.{prefix_len}
use Rattle.base_types.specs.Names.{is_digit, is_name_byte}
use Rattle.csub_text.specs.Tokens.{closed_after}
use Rattle.net_expressions.specs.Lexemes.{Front, Gap, Lexeme, Wrong, is_space, begins_name, tokens_behind}

-- what a token is; `Bad` is a token that no text has
pub data Kind : Type 0 where
  Word : (word : List ℕ) → Kind
  Number : (number : List ℕ) → Kind
  Mark : (mark : List ℕ) → Kind
  Bad : Kind

abbrev pub comment_front : Option ℕ → Front Kind
comment_front None = Wrong
comment_front (Some n) = Gap (n + 1)

-- a comment goes from `/*` up to the first `*/` after it
abbrev pub slash_front : List ℕ → Front Kind
slash_front [] = Wrong
slash_front (c ∷ cs) = if c == 42 then comment_front (closed_after cs) else Wrong

abbrev pub arrow_front : List ℕ → Front Kind
arrow_front [] = Wrong
arrow_front (c ∷ cs) = if c == 62 then Lexeme 1 (Mark (45 ∷ 62 ∷ [])) else Wrong

-- ( ) { } ; : = * , ! & |
abbrev pub is_single_mark : ℕ → Bool
is_single_mark c =
    c == 40 || (c == 41 || (c == 123 || (c == 125 || (c == 59 || (c == 58 || (c == 61 || (c == 42
    || (c == 44 || (c == 33 || (c == 38 || c == 124))))))))))

-- and `->`
abbrev pub longest_mark : ℕ → List ℕ → Front Kind
longest_mark c cs =
    if is_single_mark c then Lexeme 0 (Mark (c ∷ []))
    else (if c == 45 then arrow_front cs else Wrong)

-- what a byte and those after it begin with; a number goes on like a word
abbrev pub front : ℕ → List ℕ → Front Kind
front c cs =
    if is_space c then Gap 0
    else (if c == 47 then slash_front cs
    else (if begins_name c then Lexeme (prefix_len is_name_byte cs)
    (Word (c ∷ take (prefix_len is_name_byte cs) cs))
    else (if is_digit c then Lexeme (prefix_len is_name_byte cs)
    (Number (c ∷ take (prefix_len is_name_byte cs) cs))
    else longest_mark c cs)))

-- the tokens of a text
abbrev pub kinds : List ℕ → List Kind
kinds text = map (λ t. t.kind) (tokens_behind Bad front 0 0 text)
