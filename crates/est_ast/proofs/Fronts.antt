-- What stands at the front of a text, from what its bytes are.
use Rattle.std.proofs.Common.{◌≡◌, ℕ, zero, suc, ◌<◌, ◌≤◌, ◌≢◌, ◌^◌, List, length, get_or, take, Option, Some, None, refl, inl, arith}
use Rattle.est_ast.specs.declared.tokens.Kind.{Kind}
use Rattle.est_ast.specs.declared.tokens.Kind.TheVariants.{Reserved, Mark, Ident, Number}
use Rattle.est_ast.specs.declared.tokens.Reserved.{Reserved as ReservedWord}
use Rattle.est_ast.specs.Spelling.{spelling}
use Rattle.est_ast.specs.Lexemes.{IsSpace, IsLetter, IsDigit, IsNameByte, BeginsWithLineComment, BeginsWithBlockComment, BeginsWithMark, LexicalPart, Space}
use Rattle.est_ast.specs.Lexemes.{LineComment, BlockComment, Word, Numeral, Sign, BeginsPart, BeginsLongest}
use Rattle.est_ast.specs.Lexing.{number_of, IsFrontToken, BeginsWithBadByte, BeginsWithBigNumber}
use Rattle.est_ast.specs.Runs.{IsRun}
use Rattle.est_ast.proofs.Heads.{opens, within}
use Rattle.est_ast.proofs.Longest.{longest_space, longest_line, longest_block, longest_word, longest_numeral, longest_sign}

-- a piece has bytes, and they are in the text
pub front_fits : (text : List ℕ) (width : ℕ) (token : Option Kind) → IsFrontToken text width token → (0 < width) × (width ≤ length text)
front_fits text width token front = within front.part text width front.longest.begins

pub space_front : (text : List ℕ) → 0 < length text → IsSpace (get_or text 0 0) → IsFrontToken text 1 None
space_front text some space = record {
  part = Space;
  longest = longest_space text 1 (record { one_byte = refl; there = some; space = space });
  makes = tt;
}

pub line_front : (text : List ℕ) (n : ℕ) → BeginsWithLineComment text n → IsFrontToken text n None
line_front text n begins = record { part = LineComment; longest = longest_line text n begins; makes = tt }

pub block_front : (text : List ℕ) (n : ℕ) → BeginsWithBlockComment text n → IsFrontToken text n None
block_front text n begins = record { part = BlockComment; longest = longest_block text n begins; makes = tt }

-- a run of bytes of a class is not empty where the first byte is of the class
run_some : (P : ℕ → Type 0) (text : List ℕ) (n : ℕ) → 0 < length text → P (get_or text 0 0) → IsRun P text n → 0 < n
run_some P text zero some head run = absurd (run.stops some head)
run_some P text (suc n) some head run = omega arith

word_longest : (text : List ℕ) (n : ℕ) → 0 < length text → IsLetter (get_or text 0 0) → IsRun IsNameByte text n → BeginsLongest Word text n
word_longest text n some letter run =
    longest_word text n (record { some = run_some IsNameByte text n some (inl letter) run; within = run.within; letter = letter; name_bytes = run.passes })
    run.stops

pub reserved_front : (text : List ℕ) (n : ℕ) (word : ReservedWord) → 0 < length text → IsLetter (get_or text 0 0) → IsRun IsNameByte text n →
    take n text ≡ spelling word → IsFrontToken text n (Some (Reserved word))
reserved_front text n word some letter run written = record { part = Word; longest = word_longest text n some letter run; makes = written }

pub ident_front : (text : List ℕ) (n : ℕ) → 0 < length text → IsLetter (get_or text 0 0) → IsRun IsNameByte text n →
    ((word : ReservedWord) → take n text ≢ spelling word) → IsFrontToken text n (Some (Ident (take n text)))
ident_front text n some letter run other = record { part = Word; longest = word_longest text n some letter run; makes = (refl, other) }

numeral_longest : (text : List ℕ) (n : ℕ) → 0 < length text → IsDigit (get_or text 0 0) → IsRun IsDigit text n → BeginsLongest Numeral text n
numeral_longest text n some digit run =
    longest_numeral text n (record { some = run_some IsDigit text n some digit run; within = run.within; digits = run.passes }) run.stops

pub number_front : (text : List ℕ) (n : ℕ) → 0 < length text → IsDigit (get_or text 0 0) → IsRun IsDigit text n → number_of (take n text) < 2 ^ 128 →
    IsFrontToken text n (Some (Number (number_of (take n text))))
number_front text n some digit run fits = record { part = Numeral; longest = numeral_longest text n some digit run; makes = (refl, fits) }

pub big_front : (text : List ℕ) (n : ℕ) → 0 < length text → IsDigit (get_or text 0 0) → IsRun IsDigit text n → 2 ^ 128 ≤ number_of (take n text) →
    BeginsWithBigNumber text
big_front text n some digit run big = record { width = n; longest = numeral_longest text n some digit run; big = big }

pub mark_front : (text : List ℕ) (n : ℕ) (begins : BeginsWithMark text n) → IsFrontToken text n (Some (Mark begins.mark))
mark_front text n begins = record { part = Sign; longest = longest_sign text n begins; makes = begins.written }

-- the first byte begins no space, comment, word or numeral
pub record IsOther (byte : ℕ) : Type 0 where
  pub no_space : ¬ IsSpace byte
  pub no_percent : byte ≢ 37
  pub no_letter : ¬ IsLetter byte
  pub no_digit : ¬ IsDigit byte

pub bad_front : (text : List ℕ) → 0 < length text → IsOther (get_or text 0 0) → ((n : ℕ) → ¬ BeginsWithMark text n) → BeginsWithBadByte text
bad_front text some other no_mark = record {
  some = some;
  no_part = no_part;
  no_comment = λ comment. other.no_percent comment.0.1;
}
  where
    no_part : (part : LexicalPart) (n : ℕ) → ¬ BeginsPart part text n
    no_part Space n begins = other.no_space (opens Space text n begins)
    no_part LineComment n begins = other.no_percent begins.percent.1
    no_part BlockComment n begins = other.no_percent begins.opens.0.1
    no_part Word n begins = other.no_letter begins.letter
    no_part Numeral n begins = other.no_digit (opens Numeral text n begins)
    no_part Sign n begins = no_mark n begins
