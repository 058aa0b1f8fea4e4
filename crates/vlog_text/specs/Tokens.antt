-- To believe: the tokens of a text, each as long as it can be. Spaces and comments are none. The words, marks and
-- comments are those of Verilog (IEEE 1364).
use Rattle.std.specs.Prelude.{ℕ, ◌+◌, ◌==◌, Bool, not, ◌&&◌, List, [], ◌∷◌, take, codes, map}
use Rattle.std.specs.Prelude.{Option, Some, None, if◌then◌else◌}
use Rattle.std.specs.List.{prefix_len}
use Rattle.base_types.specs.Names.{is_name_byte, is_same_name}
use Rattle.net_expressions.specs.Lexemes as lexemes
use Rattle.net_expressions.specs.Lexemes.{Front, Gap, Lexeme, Wrong, mark_front, is_space, begins_name, tokens_behind}
use Rattle.vlog_text.specs.Trees.{Sort, Input, Output, Wire, Reg}

-- What a token is; `Bad` is one that no text has. `Declares` is the word that declares names of this sort, `Becomes`
-- is `<=`, and `Zero` and `One` are the constants `1'b0` and `1'b1`.
pub data Kind : Type 0 where
  ModuleWord : Kind
  InitialWord : Kind
  AssignWord : Kind
  AlwaysWord : Kind
  PosedgeWord : Kind
  BeginWord : Kind
  EndWord : Kind
  EndmoduleWord : Kind
  LeftParenthesis : Kind
  RightParenthesis : Kind
  Comma : Kind
  Semicolon : Kind
  Equals : Kind
  At : Kind
  Bar : Kind
  Ampersand : Kind
  Tilde : Kind
  Becomes : Kind
  Zero : Kind
  One : Kind
  Declares : (sort : Sort) → Kind
  Named : (name : List ℕ) → Kind
  Bad : Kind

-- a token and the place of its first byte in the text
abbrev pub Token : Type 0
Token = lexemes.PlacedToken Kind

-- the words that declare names
abbrev pub sort_word : List ℕ → Option Sort
sort_word word =
    if is_same_name word (codes "input") then Some Input
    else (if is_same_name word (codes "output") then Some Output
    else (if is_same_name word (codes "wire") then Some Wire
    else (if is_same_name word (codes "reg") then Some Reg
    else None)))

-- the other reserved words, and all names
abbrev pub other_word : List ℕ → Kind
other_word word =
    if is_same_name word (codes "module") then ModuleWord
    else (if is_same_name word (codes "initial") then InitialWord
    else (if is_same_name word (codes "assign") then AssignWord
    else (if is_same_name word (codes "always") then AlwaysWord
    else (if is_same_name word (codes "posedge") then PosedgeWord
    else (if is_same_name word (codes "begin") then BeginWord
    else (if is_same_name word (codes "end") then EndWord
    else (if is_same_name word (codes "endmodule") then EndmoduleWord
    else Named word)))))))

abbrev pub sort_or_other : Option Sort → Kind → Kind
sort_or_other None other = other
sort_or_other (Some sort) other = Declares sort

abbrev pub word_kind : List ℕ → Kind
word_kind word = sort_or_other (sort_word word) (other_word word)

-- the marks of one byte
abbrev pub mark_kind : ℕ → Option Kind
mark_kind c =
    if c == 40 then Some LeftParenthesis
    else (if c == 41 then Some RightParenthesis
    else (if c == 44 then Some Comma
    else (if c == 59 then Some Semicolon
    else (if c == 61 then Some Equals
    else (if c == 64 then Some At
    else (if c == 124 then Some Bar
    else (if c == 38 then Some Ampersand
    else (if c == 126 then Some Tilde
    else None))))))))

-- a comment goes from `//` up to the end of the line
abbrev pub stays_in_line : ℕ → Bool
stays_in_line c = not (c == 10)

abbrev pub slash_front : List ℕ → Front Kind
slash_front [] = Wrong
slash_front (c ∷ cs) = if c == 47 then Gap (1 + prefix_len stays_in_line cs) else Wrong

-- `<=`
abbrev pub less_front : List ℕ → Front Kind
less_front [] = Wrong
less_front (c ∷ cs) = if c == 61 then Lexeme 1 Becomes else Wrong

-- `1'b0` and `1'b1`
abbrev pub digit_front : ℕ → Front Kind
digit_front c = if c == 48 then Lexeme 3 Zero else (if c == 49 then Lexeme 3 One else Wrong)

abbrev pub one_front : List ℕ → Front Kind
one_front (c ∷ d ∷ e ∷ cs) = if c == 39 && d == 98 then digit_front e else Wrong
one_front others = Wrong

-- what a byte and those after it begin with
abbrev pub front : ℕ → List ℕ → Front Kind
front c cs =
    if is_space c then Gap 0
    else (if c == 47 then slash_front cs
    else (if c == 60 then less_front cs
    else (if c == 49 then one_front cs
    else (if begins_name c then Lexeme (prefix_len is_name_byte cs)
    (word_kind (c ∷ take (prefix_len is_name_byte cs) cs))
    else mark_front (mark_kind c)))))

-- the tokens of a text. A byte that begins no token is the last one.
abbrev pub tokens : List ℕ → List Token
tokens text = tokens_behind Bad front 0 0 text

abbrev pub kinds : List ℕ → List Kind
kinds text = map (λ t. t.kind) (tokens text)
