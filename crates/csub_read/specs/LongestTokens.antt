-- Contract: that each token of a text is as long as it can be.
use Rattle.std.specs.Prelude.{◌≡◌, ◌⊎◌, ℕ, ◌+◌, ◌≤◌, true, List, [], ◌∷◌, length, take, drop, Some, All}
use Rattle.std.specs.List.{list_all}
use Rattle.base_types.specs.Names.{is_name_byte}
use Rattle.csub_text.specs.Tokens.{Kind, Bad, Token, begins_name, word_kind, mark_kind, tokens}

-- the bytes are one token of this kind: a word, or a mark of one byte
abbrev pub IsLexeme : List ℕ → Kind → Type 0
IsLexeme [] kind = ⊥
IsLexeme (c ∷ cs) kind =
    ((begins_name c ≡ true) × (list_all is_name_byte cs ≡ true) × (kind ≡ word_kind (c ∷ cs)))
    ⊎ ((cs ≡ []) × (mark_kind c ≡ Some kind))

-- A token stands at its place, and no longer one begins there.
pub record IsLongest (text : List ℕ) (token : Token) : Type 0 where
  pub size : ℕ
  pub within : token.at + size ≤ length text
  pub lexeme : IsLexeme (take size (drop token.at text)) token.kind
  pub longest : (n : ℕ) (kind : Kind) → token.at + n ≤ length text → IsLexeme (take n (drop token.at text)) kind
      → n ≤ size

-- Except for the last one of a text that has no other tokens, each is the longest.
abbrev pub TokensAreLongest : Type 0
TokensAreLongest = (text : List ℕ) → All (λ (t : Token). (t.kind ≡ Bad) ⊎ IsLongest text t) (tokens text)
