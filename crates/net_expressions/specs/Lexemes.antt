-- To believe: how a text is cut into tokens, where K is what a token is and `front` says what a byte and those after
-- it begin with; and at which token a text stops being one of a grammar.
use Rattle.std.specs.Prelude.{◌≡◌, ℕ, ◌+◌, ◌-◌, ◌==◌, zero, suc, Bool, ◌||◌, List, [], ◌∷◌, length, map, drop}
use Rattle.std.specs.Prelude.{Option, Some, None}
use Rattle.base_types.specs.Names.{is_letter}
use Rattle.base_reader.specs.declared.faults.Fault.{Fault}
use Rattle.base_reader.specs.Exact.{IsLeastPlace}

-- a token and the place of its first byte in the text
pub record PlacedToken (K : Type 0) : Type 0 where
  pub kind : K
  pub at : ℕ

-- space, tab, line feed, form feed and carriage return
abbrev pub is_space : ℕ → Bool
is_space c = c == 32 || (c == 9 || (c == 10 || (c == 12 || c == 13)))

-- a name begins with a letter or `_`
abbrev pub begins_name : ℕ → Bool
begins_name c = is_letter c || c == 95

-- what begins a text: a space or a comment, a token, or a byte that begins neither. Of the first two the number of
-- bytes after the first one is reported.
pub data Front (K : Type 0) : Type 0 where
  Gap : (more : ℕ) → Front K
  Lexeme : (more : ℕ) (kind : K) → Front K
  Wrong : Front K

-- a mark of one byte, if it is one
abbrev pub mark_front : {K : Type 0} → Option K → Front K
mark_front None = Wrong
mark_front (Some kind) = Lexeme 0 kind

abbrev pub token_of : {K : Type 0} → K → ℕ → Front K → (ℕ → List (PlacedToken K)) → List (PlacedToken K)
token_of bad at (Gap more) behind = behind more
token_of bad at (Lexeme more kind) behind = record { kind = kind; at = at } ∷ behind more
token_of bad at Wrong behind = record { kind = bad; at = at } ∷ []

-- the tokens of a text that stands at this place, of which some bytes are passed over. What begins no token is the
-- last token, a bad one.
abbrev pub tokens_behind : {K : Type 0} → K → (ℕ → List ℕ → Front K) → ℕ → ℕ → List ℕ → List (PlacedToken K)
tokens_behind bad front skipped at [] = []
tokens_behind bad front (suc skipped) at (c ∷ cs) = tokens_behind bad front skipped (at + 1) cs
tokens_behind bad front zero at (c ∷ cs) =
    token_of bad at (front c cs) (λ more. tokens_behind bad front more (at + 1) cs)

-- the place of the first of some tokens, or the end of the text
abbrev pub place_of : {K : Type 0} → ℕ → List (PlacedToken K) → ℕ
place_of end [] = end
place_of end (token ∷ rest) = token.at

-- The place is that of the least token that no member of the language passes, or the end of the text: `left` tokens
-- stand from there on.
pub record IsFaultPlace {K A : Type 0} (L : ℕ → A → List K → Type 0) (room : ℕ) (tokens : List (PlacedToken K))
    (end : ℕ)
    (at : ℕ) : Type 0 where
  pub fault : Fault
  pub least : IsLeastPlace L room (map (λ t. t.kind) tokens) fault
  pub place : at ≡ place_of end (drop (length tokens - fault.left) tokens)
