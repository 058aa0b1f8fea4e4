-- The first byte of a part tells its kind, save that `%{` tells the two comments apart.
use Rattle.std.proofs.Common.{◌≡◌, ℕ, zero, suc, ◌<◌, ◌≤◌, ◌≢◌, List, length, get_or, refl, sym, ◌∙◌, ap, subst, arith}
use Rattle.std.proofs.lemmas.List.{get_or-take, length-take}
use Rattle.est_ast.specs.declared.tokens.Mark.{Mark}
use Rattle.est_ast.specs.declared.tokens.Mark.TheVariants.{Semicolon}
use Rattle.est_ast.specs.Spelling.{sign}
use Rattle.est_ast.specs.Lexemes.{IsSpace, IsLetter, IsDigit, HasByte, OpensComment, BeginsWithLineComment, BeginsWithMark, LexicalPart, Space, LineComment}
use Rattle.est_ast.specs.Lexemes.{BlockComment, Word, Numeral, Sign, BeginsPart}

-- a byte that begins a mark begins nothing else
pub record IsMarkByte (byte : ℕ) : Type 0 where
  pub no_percent : byte ≢ 37
  pub no_space : ¬ IsSpace byte
  pub no_letter : ¬ IsLetter byte
  pub no_digit : ¬ IsDigit byte

-- how a part of this kind opens a text
abbrev pub Opens : LexicalPart → List ℕ → Type 0
Opens Space text = IsSpace (get_or text 0 0)
Opens LineComment text = HasByte text 0 37 × ¬ OpensComment text
Opens BlockComment text = OpensComment text
Opens Word text = IsLetter (get_or text 0 0)
Opens Numeral text = IsDigit (get_or text 0 0)
Opens Sign text = IsMarkByte (get_or text 0 0)

sign-head : (mark : Mark) → IsMarkByte (get_or (sign mark) 0 0)
sign-head Semicolon = record { no_percent = grind arith; no_space = grind arith; no_letter = grind arith; no_digit = grind arith }
sign-head _ = record { no_percent = grind arith; no_space = grind arith; no_letter = grind arith; no_digit = grind arith }

sign-some : (mark : Mark) → 0 < length (sign mark)
sign-some Semicolon = omega arith
sign-some _ = omega arith

-- a mark's first byte is the text's
pub mark_head : (text : List ℕ) (n : ℕ) → (begins : BeginsWithMark text n) → get_or text 0 0 ≡ get_or (sign begins.mark) 0 0
mark_head text n begins =
    let some : 0 < n = omega (arith, begins.length_is, sign-some begins.mark) in
    sym (get_or-take n text 0 0 some) ∙ ap (λ bytes. get_or bytes 0 0) begins.written

mark_opens : (text : List ℕ) (n : ℕ) → BeginsWithMark text n → IsMarkByte (get_or text 0 0)
mark_opens text n begins = subst IsMarkByte (sym (mark_head text n begins)) (sign-head begins.mark)

mark_within : (text : List ℕ) (n : ℕ) → BeginsWithMark text n → n ≤ length text
mark_within text n begins =
    omega (arith, length-take n text, ap length begins.written, begins.length_is)

line_some : (text : List ℕ) (n : ℕ) → BeginsWithLineComment text n → 0 < n
line_some text zero begins =
    let ends = begins.up_to_end begins.percent.0 in
    absurd (omega (arith, ends, begins.percent.1))
line_some text (suc n) begins = omega arith

pub opens : (part : LexicalPart) (text : List ℕ) (n : ℕ) → BeginsPart part text n → Opens part text
opens Space text n begins = begins.space
opens LineComment text n begins = (begins.percent, begins.no_block)
opens BlockComment text n begins = begins.opens
opens Word text n begins = begins.letter
opens Numeral text n begins = begins.digits 0 begins.some
opens Sign text n begins = mark_opens text n begins

apart_space_letter : (byte : ℕ) → IsSpace byte → ¬ IsLetter byte
apart_space_letter byte = grind arith

apart_space_digit : (byte : ℕ) → IsSpace byte → ¬ IsDigit byte
apart_space_digit byte = grind arith

apart_space_percent : (byte : ℕ) → IsSpace byte → byte ≢ 37
apart_space_percent byte = grind arith

apart_letter_digit : (byte : ℕ) → IsLetter byte → ¬ IsDigit byte
apart_letter_digit byte = grind arith

apart_digit_percent : (byte : ℕ) → IsDigit byte → byte ≢ 37
apart_digit_percent byte = grind arith

apart_letter_percent : (byte : ℕ) → IsLetter byte → byte ≢ 37
apart_letter_percent byte = grind arith

-- the first byte and, at a comment, the second leave one kind of part
pub one_part : (part other : LexicalPart) (text : List ℕ) → Opens part text → Opens other text → part ≡ other
one_part Space Space text a b = refl
one_part Space LineComment text a b = absurd (apart_space_percent _ a b.0.1)
one_part Space BlockComment text a b = absurd (apart_space_percent _ a b.0.1)
one_part Space Word text a b = absurd (apart_space_letter _ a b)
one_part Space Numeral text a b = absurd (apart_space_digit _ a b)
one_part Space Sign text a b = absurd (b.no_space a)
one_part LineComment Space text a b = absurd (apart_space_percent _ b a.0.1)
one_part LineComment LineComment text a b = refl
one_part LineComment BlockComment text a b = absurd (a.1 b)
one_part LineComment Word text a b = absurd (apart_letter_percent _ b a.0.1)
one_part LineComment Numeral text a b = absurd (apart_digit_percent _ b a.0.1)
one_part LineComment Sign text a b = absurd (b.no_percent a.0.1)
one_part BlockComment Space text a b = absurd (apart_space_percent _ b a.0.1)
one_part BlockComment LineComment text a b = absurd (b.1 a)
one_part BlockComment BlockComment text a b = refl
one_part BlockComment Word text a b = absurd (apart_letter_percent _ b a.0.1)
one_part BlockComment Numeral text a b = absurd (apart_digit_percent _ b a.0.1)
one_part BlockComment Sign text a b = absurd (b.no_percent a.0.1)
one_part Word Space text a b = absurd (apart_space_letter _ b a)
one_part Word LineComment text a b = absurd (apart_letter_percent _ a b.0.1)
one_part Word BlockComment text a b = absurd (apart_letter_percent _ a b.0.1)
one_part Word Word text a b = refl
one_part Word Numeral text a b = absurd (apart_letter_digit _ a b)
one_part Word Sign text a b = absurd (b.no_letter a)
one_part Numeral Space text a b = absurd (apart_space_digit _ b a)
one_part Numeral LineComment text a b = absurd (apart_digit_percent _ a b.0.1)
one_part Numeral BlockComment text a b = absurd (apart_digit_percent _ a b.0.1)
one_part Numeral Word text a b = absurd (apart_letter_digit _ b a)
one_part Numeral Numeral text a b = refl
one_part Numeral Sign text a b = absurd (b.no_digit a)
one_part Sign Space text a b = absurd (a.no_space b)
one_part Sign LineComment text a b = absurd (a.no_percent b.0.1)
one_part Sign BlockComment text a b = absurd (a.no_percent b.0.1)
one_part Sign Word text a b = absurd (a.no_letter b)
one_part Sign Numeral text a b = absurd (a.no_digit b)
one_part Sign Sign text a b = refl

-- a part has bytes, and they are in the text
pub within : (part : LexicalPart) (text : List ℕ) (n : ℕ) → BeginsPart part text n → (0 < n) × (n ≤ length text)
within Space text n begins = (omega (arith, begins.one_byte), omega (arith, begins.one_byte, begins.there))
within LineComment text n begins = (line_some text n begins, begins.within)
within BlockComment text n begins = (omega (arith, begins.length_is), omega (arith, begins.length_is, begins.closes.1.0))
within Word text n begins = (begins.some, begins.within)
within Numeral text n begins = (begins.some, begins.within)
within Sign text n begins =
    (omega (arith, begins.length_is, sign-some begins.mark), mark_within text n begins)
