-- The tokens at the front of a text that begins with these spaces, words, names and marks.
use Rattle.std.proofs.Common.{◌≡◌, ◌≢◌, ℕ, zero, suc, ◌+◌, ◌<◌, ◌≤◌, ◌==◌, Bool, true, false, ◌&&◌, ◌||◌, not, nat_le, nat_eq}
use Rattle.std.proofs.Common.{List, [], ◌∷◌, ◌++◌, length, map, take, drop, get_or, Option, Some, None, refl, sym, ap, ◌∙◌, subst, arith, inl, inr}
use Rattle.std.proofs.Math.Seq.{take-append_seam, drop-append_seam}
use Rattle.std.proofs.lemmas.Bool.{and_parts, not-true}
use Rattle.std.proofs.lemmas.List.{length-append, get_or-append-add, get_or_append_left}
use Rattle.std.specs.List.{list_all}
use Rattle.base_types.specs.Names.{is_letter, is_digit, is_name_byte, is_name, is_same_name}
use Rattle.base_types.proofs.Exports.{same_name-self}
use Rattle.est_ast.specs.declared.tokens.Kind.{Kind}
use Rattle.est_ast.specs.declared.tokens.Kind.TheVariants as kinds
use Rattle.est_ast.specs.declared.tokens.Token.{Token}
use Rattle.est_ast.specs.declared.tokens.Reserved.{Reserved}
use Rattle.est_ast.specs.declared.tokens.Mark.{Mark}
use Rattle.est_ast.specs.Spelling.{spelling, sign}
use Rattle.est_ast.specs.Lexemes.{IsSpace, IsLetter, IsDigit, IsNameByte}
use Rattle.est_ast.specs.Lexing.{IsFrontToken, TextPiece, Cuts, tokens_from, Tokens, LexesAs}
use Rattle.est_ast.specs.Runs.{IsRun}
use Rattle.est_ast.proofs.Exports.{at_most_one, front_fits, ident_front, mark_front, reserved_front, space_front, read-spelling, read_word}

-- a space, a reserved word, an identifier or a mark
pub data Bit : Type 0 where
  Blank : (byte : ℕ) → Bit
  Word : (word : Reserved) → Bit
  Name : (name : List ℕ) → Bit
  Sign : (mark : Mark) → Bit

abbrev pub bytes_of : Bit → List ℕ
bytes_of (Blank byte) = byte ∷ []
bytes_of (Word word) = spelling word
bytes_of (Name name) = name
bytes_of (Sign mark) = sign mark

abbrev pub token_of : Bit → Option Kind
token_of (Blank byte) = None
token_of (Word word) = Some (kinds.Reserved word)
token_of (Name name) = Some (kinds.Ident name)
token_of (Sign mark) = Some (kinds.Mark mark)

-- the bits, and what stands behind them
abbrev pub written : List Bit → List ℕ → List ℕ
written [] behind = behind
written (bit ∷ bits) behind = bytes_of bit ++ written bits behind

-- the bit is one, where this byte stands behind it
abbrev pub fits : Bit → ℕ → Bool
fits (Blank byte) next = byte == 32 || byte == 10
fits (Word word) next = is_name (spelling word) && not (is_name_byte next)
fits (Name name) next = is_name name && (not (is_name_byte next) && not (is_same_name (spelling (read_word name)) name))
fits (Sign mark) next = true

abbrev pub all_fit : List Bit → List ℕ → Bool
all_fit [] behind = true
all_fit (bit ∷ bits) behind = fits bit (get_or (written bits behind) 0 0) && all_fit bits behind

-- the kinds of their tokens
abbrev pub kinds_in : List Bit → List Kind
kinds_in [] = []
kinds_in (Blank byte ∷ bits) = kinds_in bits
kinds_in (Word word ∷ bits) = kinds.Reserved word ∷ kinds_in bits
kinds_in (Name name ∷ bits) = kinds.Ident name ∷ kinds_in bits
kinds_in (Sign mark ∷ bits) = kinds.Mark mark ∷ kinds_in bits

abbrev pub kinds_of : List Token → List Kind
kinds_of tokens = map (λ t. t.kind) tokens

-- ---- bytes of names

letter-is : (c : ℕ) → is_letter c ≡ true → IsLetter c
letter-is c is = grind arith

digit-is : (c : ℕ) → is_digit c ≡ true → IsDigit c
digit-is c is = grind arith

name_byte-is : (c : ℕ) → is_name_byte c ≡ true → IsNameByte c
name_byte-is c is = grind arith

letter-none : (c : ℕ) → is_letter c ≡ false → ¬ IsLetter c
letter-none c none is = grind arith

digit-none : (c : ℕ) → is_digit c ≡ false → ¬ IsDigit c
digit-none c none is = grind arith

name_byte-none : (c : ℕ) → is_name_byte c ≡ false → ¬ IsNameByte c
name_byte-none c none is = grind arith

all_at : (f : ℕ → Bool) (l : List ℕ) → list_all f l ≡ true → (k : ℕ) → k < length l → f (get_or l k 0) ≡ true
all_at f [] all k low = absurd (omega arith)
all_at f (x ∷ l) all zero low = (and_parts (f x) (list_all f l) all).0
all_at f (x ∷ l) all (suc k) low = all_at f l (and_parts (f x) (list_all f l) all).1 k (omega arith)

name-at : (w : List ℕ) → is_name w ≡ true → (k : ℕ) → k < length w → is_name_byte (get_or w k 0) ≡ true
name-at [] is k low = cc
name-at (c ∷ cs) is zero low = ap (λ b. b || is_digit c || c == 95) (and_parts (is_letter c) (list_all is_name_byte cs) is).0
name-at (c ∷ cs) is (suc k) low = all_at is_name_byte cs (and_parts (is_letter c) (list_all is_name_byte cs) is).1 k (omega arith)

-- a name at the front of a text, behind which no byte of a name stands
record NameFront (w more : List ℕ) : Type 0 where
  some : 0 < length (w ++ more)
  letter : IsLetter (get_or (w ++ more) 0 0)
  run : IsRun IsNameByte (w ++ more) (length w)
  written : take (length w) (w ++ more) ≡ w

name-first : (w more : List ℕ) → is_name w ≡ true → (0 < length (w ++ more)) × IsLetter (get_or (w ++ more) 0 0)
name-first [] more is = cc
name-first (c ∷ cs) more is = (omega arith, letter-is c (and_parts (is_letter c) (list_all is_name_byte cs) is).0)

name-front : (w more : List ℕ) → is_name w ≡ true → is_name_byte (get_or more 0 0) ≡ false → NameFront w more
name-front w more is none =
    let first = name-first w more is in
    let wide = length-append w more in
    let end : length w + 0 ≡ length w = omega arith in
    record {
      some = first.0;
      letter = first.1;
      run = record {
        within = omega (arith, wide);
        passes = λ k low. name_byte-is (get_or (w ++ more) k 0) (ap is_name_byte (get_or_append_left w more 0 k low) ∙ name-at w is k low);
        stops = λ low. name_byte-none (get_or (w ++ more) (length w) 0)
            (ap (λ i. is_name_byte (get_or (w ++ more) i 0)) (sym end)
            ∙ ap is_name_byte (get_or-append-add w more 0 0) ∙ none);
      };
      written = take-append_seam w more;
    }

-- ---- one bit

front : (bit : Bit) (more : List ℕ) → fits bit (get_or more 0 0) ≡ true → IsFrontToken (bytes_of bit ++ more) (length (bytes_of bit)) (token_of bit)
front (Blank byte) more fit = space_front (byte ∷ more) (omega arith) (grind arith)
front (Word word) more fit =
    let parts = and_parts (is_name (spelling word)) (not (is_name_byte (get_or more 0 0))) fit in
    let n = name-front (spelling word) more parts.0 (not-true _ parts.1) in
    reserved_front (spelling word ++ more) (length (spelling word)) word n.some n.letter n.run n.written
front (Name name) more fit =
    let parts = and_parts (is_name name) _ fit in
    let others = and_parts (not (is_name_byte (get_or more 0 0))) (not (is_same_name (spelling (read_word name)) name)) parts.1 in
    let n = name-front name more parts.0 (not-true _ others.0) in
    let other : (word : Reserved) → take (length name) (name ++ more) ≢ spelling word = λ word e.
    let w : name ≡ spelling word = sym n.written ∙ e in
    let same : spelling (read_word name) ≡ name = ap (λ x. spelling (read_word x)) w ∙ ap spelling (read-spelling word) ∙ sym w in
    let twice = ap (λ x. is_same_name x name) same ∙ same_name-self name in
    let none = not-true _ others.1 in
    cc in
    subst (λ x. IsFrontToken (name ++ more) (length name) (Some (kinds.Ident x))) n.written
    (ident_front (name ++ more) (length name) n.some n.letter n.run other)
front (Sign mark) more fit =
    mark_front (sign mark ++ more) (length (sign mark)) (record { mark = mark; length_is = refl; written = take-append_seam (sign mark) more })

-- ---- all of them

abbrev Fronts : List Bit → List ℕ → Type 0
Fronts [] text = Unit {0}
Fronts (bit ∷ bits) text = IsFrontToken text (length (bytes_of bit)) (token_of bit) × Fronts bits (drop (length (bytes_of bit)) text)

fronts : (bits : List Bit) (behind : List ℕ) → all_fit bits behind ≡ true → Fronts bits (written bits behind)
fronts [] behind fit = tt
fronts (bit ∷ bits) behind fit =
    let parts = and_parts (fits bit (get_or (written bits behind) 0 0)) (all_fit bits behind) fit in (
      front bit (written bits behind) parts.0,
      subst (Fronts bits) (sym (drop-append_seam (bytes_of bit) (written bits behind))) (fronts bits behind parts.1),
    )

abbrev pieces_of : List Bit → List TextPiece
pieces_of [] = []
pieces_of (bit ∷ bits) = record { width = length (bytes_of bit); token = token_of bit } ∷ pieces_of bits

-- a text is cut into the bits that it begins with, and into pieces behind
record IsCutBehind (bits : List Bit) (text : List ℕ) : Type 0 where
  pieces : List TextPiece
  cut : Cuts (pieces_of bits ++ pieces) text []

cut-behind : (bits : List Bit) (text : List ℕ) (given : List TextPiece) → Fronts bits text → Cuts given text [] → IsCutBehind bits text
cut-behind [] text given are cut = record { pieces = given; cut = cut }
cut-behind (bit ∷ bits) text [] are cut =
    let some = front_fits text (length (bytes_of bit)) (token_of bit) are.0 in
    let none = ap length cut in
    absurd (omega arith)
cut-behind (bit ∷ bits) text (piece ∷ given) are cut =
    let a = are.0.longest in
    let b = cut.0.longest in
    let wide : piece.width ≡ length (bytes_of bit) =
    omega (arith, a.longest cut.0.part piece.width b.begins, b.longest are.0.part (length (bytes_of bit)) a.begins) in
    let behind = cut-behind bits (drop (length (bytes_of bit)) text) given are.1 (subst (λ n. Cuts given (drop n text) []) wide cut.1) in
    record { pieces = behind.pieces; cut = (are.0, behind.cut) }

abbrev tail_of : ℕ → List Bit → List TextPiece → List Token
tail_of start [] pieces = tokens_from start pieces
tail_of start (bit ∷ bits) pieces = tail_of (start + length (bytes_of bit)) bits pieces

kinds-begin : (bits : List Bit) (pieces : List TextPiece) (start : ℕ) →
    kinds_of (tokens_from start (pieces_of bits ++ pieces)) ≡ kinds_in bits ++ kinds_of (tail_of start bits pieces)
kinds-begin [] pieces start = refl
kinds-begin (Blank byte ∷ bits) pieces start = kinds-begin bits pieces (start + 1)
kinds-begin (Word word ∷ bits) pieces start = ap (λ l. kinds.Reserved word ∷ l) (kinds-begin bits pieces (start + length (spelling word)))
kinds-begin (Name name ∷ bits) pieces start = ap (λ l. kinds.Ident name ∷ l) (kinds-begin bits pieces (start + length name))
kinds-begin (Sign mark ∷ bits) pieces start = ap (λ l. kinds.Mark mark ∷ l) (kinds-begin bits pieces (start + length (sign mark)))

same-tokens : (a b : List Token) → Tokens a ≡ Tokens b → a ≡ b
same-tokens a b is = cc

-- the tokens of such a text begin with those of the bits
pub tokens-begin : (bits : List Bit) (behind : List ℕ) (tokens : List Token) → all_fit bits behind ≡ true → LexesAs (written bits behind) (Tokens tokens) →
    (more : List Kind) × (kinds_of tokens ≡ kinds_in bits ++ more)
tokens-begin bits behind tokens fit lexes =
    let text = written bits behind in
    let whole = subst (λ rest. Cuts lexes.pieces text rest) lexes.comes_to.0 lexes.cut in
    let c = cut-behind bits text lexes.pieces (fronts bits behind fit) whole in
    let again : LexesAs text (Tokens (tokens_from 0 (pieces_of bits ++ c.pieces))) =
    record { pieces = pieces_of bits ++ c.pieces; rest = []; cut = c.cut; comes_to = (refl, refl) } in
    let same = same-tokens tokens (tokens_from 0 (pieces_of bits ++ c.pieces)) (at_most_one text _ _ lexes again) in
    (kinds_of (tail_of 0 bits c.pieces), ap kinds_of same ∙ kinds-begin bits c.pieces 0)
