-- To believe: the parts that a program text is made of: spaces, comments, words, numerals and marks.
-- A part is reported by the text from its first byte on and by its length, since what a comment is
-- depends on the bytes after it.
use Rattle.std.specs.Prelude.{◌≡◌, ℕ, ◌+◌, ◌<◌, ◌≤◌, ◌≢◌, ◌⊎◌, List, length, take, slice_index}
use Rattle.est_ast.specs.declared.tokens.Mark.{Mark}
use Rattle.est_ast.specs.Spelling.{sign}

-- Space, tab, line feed, form feed and carriage return.
abbrev pub IsSpace : ℕ → Type 0
IsSpace byte = (byte ≡ 32) ⊎ ((byte ≡ 9) ⊎ ((byte ≡ 10) ⊎ ((byte ≡ 12) ⊎ (byte ≡ 13))))

-- The letters are those of ASCII.
abbrev pub IsLetter : ℕ → Type 0
IsLetter byte = ((65 ≤ byte) × (byte ≤ 90)) ⊎ ((97 ≤ byte) × (byte ≤ 122))

abbrev pub IsDigit : ℕ → Type 0
IsDigit byte = (48 ≤ byte) × (byte ≤ 57)

-- A letter, a digit or `_`.
abbrev pub IsNameByte : ℕ → Type 0
IsNameByte byte = IsLetter byte ⊎ (IsDigit byte ⊎ (byte ≡ 95))

-- the text has this byte at this place
abbrev pub HasByte : List ℕ → ℕ → ℕ → Type 0
HasByte text place byte = (place < length text) × (slice_index text place ≡ byte)

-- `%{` opens the text: it always begins a block comment
abbrev pub OpensComment : List ℕ → Type 0
OpensComment text = HasByte text 0 37 × HasByte text 1 123

-- `}%` stands at this place
abbrev pub ClosesComment : List ℕ → ℕ → Type 0
ClosesComment text place = HasByte text place 125 × HasByte text (place + 1) 37

-- A space is one byte.
pub record BeginsWithSpace (text : List ℕ) (n : ℕ) : Type 0 where
  pub one_byte : n ≡ 1
  pub there : 0 < length text
  pub space : IsSpace (slice_index text 0)

-- A line comment goes from a `%` that opens no block comment up to the next line feed, or else up
-- to the end of the text. The line feed is a space after it.
pub record BeginsWithLineComment (text : List ℕ) (n : ℕ) : Type 0 where
  pub percent : HasByte text 0 37
  pub no_block : ¬ OpensComment text
  pub within : n ≤ length text
  pub one_line : (k : ℕ) → k < n → slice_index text k ≢ 10
  pub up_to_end : n < length text → slice_index text n ≡ 10

-- A block comment goes from `%{` up to the next `}%`, whatever stands between.
pub record BeginsWithBlockComment (text : List ℕ) (n : ℕ) : Type 0 where
  pub opens : OpensComment text
  pub close : ℕ
  pub behind : 2 ≤ close
  pub closes : ClosesComment text close
  pub next : (k : ℕ) → 2 ≤ k → k < close → ¬ ClosesComment text k
  pub length_is : n ≡ close + 2

-- A word is a letter and then letters, digits and `_`.
pub record BeginsWithWord (text : List ℕ) (n : ℕ) : Type 0 where
  pub some : 0 < n
  pub within : n ≤ length text
  pub letter : IsLetter (slice_index text 0)
  pub name_bytes : (k : ℕ) → k < n → IsNameByte (slice_index text k)

-- A numeral is one or more digits.
pub record BeginsWithNumeral (text : List ℕ) (n : ℕ) : Type 0 where
  pub some : 0 < n
  pub within : n ≤ length text
  pub digits : (k : ℕ) → k < n → IsDigit (slice_index text k)

-- One of the marks.
pub record BeginsWithMark (text : List ℕ) (n : ℕ) : Type 0 where
  pub mark : Mark
  pub length_is : n ≡ length (sign mark)
  pub written : take n text ≡ sign mark

-- the kinds of parts
pub data LexicalPart : Type 0 where
  Space : LexicalPart
  LineComment : LexicalPart
  BlockComment : LexicalPart
  Word : LexicalPart
  Numeral : LexicalPart
  Sign : LexicalPart

-- a part of this kind, n bytes long, begins the text
abbrev pub BeginsPart : LexicalPart → List ℕ → ℕ → Type 0
BeginsPart Space = BeginsWithSpace
BeginsPart LineComment = BeginsWithLineComment
BeginsPart BlockComment = BeginsWithBlockComment
BeginsPart Word = BeginsWithWord
BeginsPart Numeral = BeginsWithNumeral
BeginsPart Sign = BeginsWithMark

-- it is as long as it can be: no part of any kind that begins the text is longer
pub record BeginsLongest (part : LexicalPart) (text : List ℕ) (n : ℕ) : Type 0 where
  pub begins : BeginsPart part text n
  pub longest : (other : LexicalPart) (m : ℕ) → BeginsPart other text m → m ≤ n
