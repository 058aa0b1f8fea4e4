-- To believe: the tokens of a text, each as long as it can be: words, and marks of one byte, `<=` and the constants
-- `1'b0` and `1'b1`. Spaces and comments are none. The words, marks and comments are those of Verilog (IEEE 1364).
use Rattle.std.specs.Prelude.{ℕ, ◌+◌, ◌==◌, Bool, ◌&&◌, ◌||◌, List, [], ◌∷◌, take, map, codes, if◌then◌else◌}
use Rattle.std.specs.List.{prefix_len}
use Rattle.base_types.specs.Names.{is_name_byte}
use Rattle.net_expressions.specs.Lexemes.{Front, Gap, Lexeme, Wrong, is_space, begins_name, tokens_behind}
use Rattle.vlog_text.specs.Tokens.{stays_in_line}

-- what a token is; `Bad` is a token that no text has
pub data Kind : Type 0 where
  Word : (word : List ℕ) → Kind
  Mark : (mark : List ℕ) → Kind
  Bad : Kind

-- a comment goes from `//` up to the end of the line
abbrev pub slash_front : List ℕ → Front Kind
slash_front [] = Wrong
slash_front (c ∷ cs) = if c == 47 then Gap (1 + prefix_len stays_in_line cs) else Wrong

-- `<=`
abbrev pub less_front : List ℕ → Front Kind
less_front [] = Wrong
less_front (c ∷ cs) = if c == 61 then Lexeme 1 (Mark (codes "<=")) else Wrong

-- `1'b0` and `1'b1`
abbrev pub digit_front : ℕ → Front Kind
digit_front c =
    if c == 48 then Lexeme 3 (Mark (codes "1'b0")) else (if c == 49 then Lexeme 3 (Mark (codes "1'b1")) else Wrong)

abbrev pub one_front : List ℕ → Front Kind
one_front (c ∷ d ∷ e ∷ cs) = if c == 39 && d == 98 then digit_front e else Wrong
one_front others = Wrong

-- ( ) , ; = @ | & ~ !
abbrev pub is_single_mark : ℕ → Bool
is_single_mark c =
    c == 40 || (c == 41 || (c == 44 || (c == 59 || (c == 61 || (c == 64 || (c == 124 || (c == 38 || (c == 126
    || c == 33))))))))

-- what a byte and those after it begin with
abbrev pub front : ℕ → List ℕ → Front Kind
front c cs =
    if is_space c then Gap 0
    else (if c == 47 then slash_front cs
    else (if c == 60 then less_front cs
    else (if c == 49 then one_front cs
    else (if begins_name c then Lexeme (prefix_len is_name_byte cs)
    (Word (c ∷ take (prefix_len is_name_byte cs) cs))
    else (if is_single_mark c then Lexeme 0 (Mark (c ∷ [])) else Wrong)))))

-- the tokens of a text
abbrev pub kinds : List ℕ → List Kind
kinds text = map (λ t. t.kind) (tokens_behind Bad front 0 0 text)
