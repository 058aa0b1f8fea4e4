-- To believe: the tokens of a text, each as long as it can be. Spaces and comments are none.
use Rattle.std.specs.Prelude.{ℕ, ◌+◌, ◌==◌, ◌&&◌, List, [], ◌∷◌, take, codes, map}
use Rattle.std.specs.Prelude.{Option, Some, None, if◌then◌else◌}
use Rattle.std.specs.List.{prefix_len}
use Rattle.base_types.specs.Names.{is_name_byte, is_same_name}
use Rattle.net_expressions.specs.Lexemes as lexemes
pub use Rattle.net_expressions.specs.Lexemes.{Front, Gap, Lexeme, Wrong, mark_front, is_space, begins_name}
pub use Rattle.net_expressions.specs.Lexemes.{tokens_behind}

-- What a token is. `If` and `Else` are words of guarded texts alone, and here names; `Bad` is a token that no text has.
pub data Kind : Type 0 where
  Static : Kind
  Int : Kind
  Return : Kind
  Void : Kind
  React : Kind
  If : Kind
  Else : Kind
  LeftParenthesis : Kind
  RightParenthesis : Kind
  LeftBrace : Kind
  RightBrace : Kind
  Semicolon : Kind
  Equals : Kind
  Zero : Kind
  One : Kind
  Bar : Kind
  Ampersand : Kind
  Bang : Kind
  Named : (name : List ℕ) → Kind
  Bad : Kind

-- a token and the place of its first byte in the text
abbrev pub Token : Type 0
Token = lexemes.PlacedToken Kind

-- the reserved words, and all other names
abbrev pub word_kind : List ℕ → Kind
word_kind word =
    if is_same_name word (codes "static") then Static
    else (if is_same_name word (codes "int") then Int
    else (if is_same_name word (codes "return") then Return
    else (if is_same_name word (codes "void") then Void
    else (if is_same_name word (codes "react") then React
    else Named word))))

abbrev pub mark_kind : ℕ → Option Kind
mark_kind c =
    if c == 40 then Some LeftParenthesis
    else (if c == 41 then Some RightParenthesis
    else (if c == 123 then Some LeftBrace
    else (if c == 125 then Some RightBrace
    else (if c == 59 then Some Semicolon
    else (if c == 61 then Some Equals
    else (if c == 48 then Some Zero
    else (if c == 49 then Some One
    else (if c == 124 then Some Bar
    else (if c == 38 then Some Ampersand
    else (if c == 33 then Some Bang
    else None))))))))))

abbrev pub one_more : Option ℕ → Option ℕ
one_more None = None
one_more (Some n) = Some (n + 1)

-- how many bytes stand up to the end of the first `*/`, if there is one
abbrev pub closed_after : List ℕ → Option ℕ
closed_after [] = None
closed_after (c ∷ []) = None
closed_after (c ∷ d ∷ cs) = if c == 42 && d == 47 then Some 2 else one_more (closed_after (d ∷ cs))

abbrev pub comment_front : Option ℕ → Front Kind
comment_front None = Wrong
comment_front (Some n) = Gap (n + 1)

-- a comment goes from `/*` up to the first `*/` after it
abbrev pub slash_front : List ℕ → Front Kind
slash_front [] = Wrong
slash_front (c ∷ cs) = if c == 42 then comment_front (closed_after cs) else Wrong

-- what a byte and those after it begin with
abbrev pub front : ℕ → List ℕ → Front Kind
front c cs =
    if is_space c then Gap 0
    else (if c == 47 then slash_front cs
    else (if begins_name c then Lexeme (prefix_len is_name_byte cs)
    (word_kind (c ∷ take (prefix_len is_name_byte cs) cs))
    else mark_front (mark_kind c)))

-- the tokens of a text. A byte that begins no token, and a `/*` without a `*/` after it, are the last token.
abbrev pub tokens : List ℕ → List Token
tokens text = tokens_behind Bad front 0 0 text

abbrev pub kinds : List ℕ → List Kind
kinds text = map (λ t. t.kind) (tokens text)
