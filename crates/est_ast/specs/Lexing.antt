-- To believe: which tokens a program text has, or which fault comes first in it.
use Rattle.std.specs.Prelude.{◌≡◌, ℕ, ◌+◌, ◌-◌, ◌*◌, ◌^◌, ◌<◌, ◌≤◌, ◌≢◌, ⊤, List, [], ◌∷◌, ◌++◌, length, take, drop}
use Rattle.std.specs.Prelude.{Option, Some, None}
use Rattle.std.specs.List.{fold}
use Rattle.est_ast.specs.declared.tokens.Kind.{Kind}
use Rattle.est_ast.specs.declared.tokens.Kind.TheVariants.{Reserved, Mark, Ident, Number}
use Rattle.est_ast.specs.declared.tokens.Reserved.{Reserved as ReservedWord}
use Rattle.est_ast.specs.declared.tokens.Token.{Token}
use Rattle.est_ast.specs.Spelling.{spelling, sign}
use Rattle.est_ast.specs.Lexemes.{LexicalPart, Space, LineComment, BlockComment, Word, Numeral, Sign, OpensComment}
use Rattle.est_ast.specs.Lexemes.{ClosesComment, BeginsPart, BeginsLongest}

-- the number that decimal digits stand for
abbrev pub number_of : List ℕ → ℕ
number_of digits = fold (λ value digit. 10 * value + (digit - 48)) 0 digits

-- The token that a part with these bytes is, if any. Spaces and comments are none. A word is the
-- reserved word that is written so, else an identifier; case matters. A number is at most the
-- greatest of 128 bits.
abbrev pub Makes : LexicalPart → List ℕ → Option Kind → Type 0
Makes Space bytes None = ⊤
Makes LineComment bytes None = ⊤
Makes BlockComment bytes None = ⊤
Makes Word bytes (Some (Reserved word)) = bytes ≡ spelling word
Makes Word bytes (Some (Ident name)) = (name ≡ bytes) × ((word : ReservedWord) → bytes ≢ spelling word)
Makes Numeral bytes (Some (Number value)) = (value ≡ number_of bytes) × (value < 2 ^ 128)
Makes Sign bytes (Some (Mark mark)) = bytes ≡ sign mark
Makes _ _ _ = ⊥

-- So many bytes at the front of the text, which are this token, if any. They are one part, as long
-- as it can be.
pub record IsFrontToken (text : List ℕ) (width : ℕ) (token : Option Kind) : Type 0 where
  pub part : LexicalPart
  pub longest : BeginsLongest part text width
  pub makes : Makes part (take width text) token

-- a piece of a text: so many bytes, and the token that they are, if any
pub record TextPiece : Type 0 where
  pub width : ℕ
  pub token : Option Kind

-- The text is cut into these pieces, one after the other, and then this rest.
abbrev pub Cuts : List TextPiece → List ℕ → List ℕ → Type 0
Cuts [] text rest = text ≡ rest
Cuts (piece ∷ pieces) text rest = IsFrontToken text piece.width piece.token × Cuts pieces (drop piece.width text) rest

-- the bytes of the pieces
abbrev pub width_of : List TextPiece → ℕ
width_of [] = 0
width_of (piece ∷ pieces) = piece.width + width_of pieces

-- the token of a piece with its place, if the piece is one
abbrev pub token_at : ℕ → ℕ → Option Kind → List Token
token_at start width None = []
token_at start width (Some kind) = record { kind = kind; span = record { start = start; end = start + width } } ∷ []

-- the tokens among the pieces with their places, where the first piece begins at this place
abbrev pub tokens_from : ℕ → List TextPiece → List Token
tokens_from start [] = []
tokens_from start (piece ∷ pieces) =
    token_at start piece.width piece.token ++ tokens_from (start + piece.width) pieces

-- no part begins the text, which is not at its end, nor does `%{`
pub record BeginsWithBadByte (text : List ℕ) : Type 0 where
  pub some : 0 < length text
  pub no_part : (part : LexicalPart) (n : ℕ) → ¬ BeginsPart part text n
  pub no_comment : ¬ OpensComment text

-- `%{` opens the text, and no `}%` follows
pub record BeginsWithOpenComment (text : List ℕ) : Type 0 where
  pub opens : OpensComment text
  pub never_closed : (place : ℕ) → 2 ≤ place → ¬ ClosesComment text place

-- the digits that begin the text are a number above the greatest of 128 bits
pub record BeginsWithBigNumber (text : List ℕ) : Type 0 where
  pub width : ℕ
  pub longest : BeginsLongest Numeral text width
  pub big : 2 ^ 128 ≤ number_of (take width text)

-- what a text comes to: its tokens, or its first fault with the fault's place
pub data Lexing : Type 0 where
  Tokens : List Token → Lexing
  BadByte : ℕ → Lexing
  OpenComment : ℕ → Lexing
  BigNumber : ℕ → Lexing

-- what it comes to, where it is cut into these pieces and this rest
abbrev pub ComesTo : List TextPiece → List ℕ → Lexing → Type 0
ComesTo pieces rest (Tokens tokens) = (rest ≡ []) × (tokens ≡ tokens_from 0 pieces)
ComesTo pieces rest (BadByte place) = BeginsWithBadByte rest × (place ≡ width_of pieces)
ComesTo pieces rest (OpenComment place) = BeginsWithOpenComment rest × (place ≡ width_of pieces)
ComesTo pieces rest (BigNumber place) = BeginsWithBigNumber rest × (place ≡ width_of pieces)

-- The token relation. A text lexes as a list of tokens where it is cut whole into spaces, comments
-- and these tokens. It lexes as a fault where it is cut so up to the fault.
pub record LexesAs (text : List ℕ) (lexing : Lexing) : Type 0 where
  pub pieces : List TextPiece
  pub rest : List ℕ
  pub cut : Cuts pieces text rest
  pub comes_to : ComesTo pieces rest lexing
