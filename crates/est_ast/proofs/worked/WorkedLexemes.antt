-- Worked parts of texts, by hand: the first and the last bytes of each kind and those beside them, one part of each kind, and what is none.
use Rattle.std.proofs.Common.{◌≡◌, ℕ, zero, suc, ◌⊎◌, ◌<◌, ◌≤◌, [], ◌∷◌, Some, None, codes, refl, sym, inl, inr, arith, lit<, lit≤, slice_index}
use Rattle.est_ast.specs.declared.tokens.Mark.TheVariants as marks
use Rattle.est_ast.specs.declared.tokens.Kind.TheVariants as kinds
use Rattle.est_ast.specs.declared.tokens.Reserved.TheVariants as words
use Rattle.est_ast.specs.Lexing.{Makes}
use Rattle.est_ast.specs.Lexemes.{IsSpace, IsLetter, IsDigit, IsNameByte, HasByte, OpensComment, ClosesComment, BeginsWithSpace, BeginsWithLineComment}
use Rattle.est_ast.specs.Lexemes.{BeginsWithBlockComment, BeginsWithWord, BeginsWithNumeral, BeginsWithMark, BeginsPart}
use Rattle.est_ast.specs.Lexemes.{Space, LineComment, BlockComment, Word, Numeral, Sign}
use Rattle.est_ast.specs.Lexemes.{BeginsLongest}

-- ---- bytes

spaces : IsSpace 9 × IsSpace 10 × IsSpace 12 × IsSpace 13 × IsSpace 32
spaces = (inr (inl refl), inr (inr (inl refl)), inr (inr (inr (inl refl))), inr (inr (inr (inr refl))), inl refl)

no_spaces : (byte : ℕ) → (byte ≡ 8) ⊎ ((byte ≡ 11) ⊎ ((byte ≡ 14) ⊎ (byte ≡ 33))) → IsSpace byte → ⊥
no_spaces byte e h = omega (arith, e, h)

letters : IsLetter 65 × IsLetter 90 × IsLetter 97 × IsLetter 122
letters = (inl (lit≤ tt, lit≤ tt), inl (lit≤ tt, lit≤ tt), inr (lit≤ tt, lit≤ tt), inr (lit≤ tt, lit≤ tt))

no_letters : (byte : ℕ) → (byte ≡ 64) ⊎ ((byte ≡ 91) ⊎ ((byte ≡ 96) ⊎ (byte ≡ 123))) → IsLetter byte → ⊥
no_letters byte e h = omega (arith, e, h)

digits : IsDigit 48 × IsDigit 57
digits = ((lit≤ tt, lit≤ tt), (lit≤ tt, lit≤ tt))

no_digits : (byte : ℕ) → (byte ≡ 47) ⊎ (byte ≡ 58) → IsDigit byte → ⊥
no_digits byte e h = omega (arith, e, h)

name_bytes : IsNameByte 97 × IsNameByte 48 × IsNameByte 95
name_bytes = (inl letters.2, inr (inl digits.0), inr (inr refl))

no_name_bytes : (byte : ℕ) → (byte ≡ 45) ⊎ (byte ≡ 96) → IsNameByte byte → ⊥
no_name_bytes byte e h = omega (arith, e, h)

there : HasByte (codes "ab") 1 98
there = (lit< tt, refl)

not_there : HasByte (codes "ab") 2 0 → ⊥
not_there h = let low = h.0 in omega (arith, low)

-- ---- comments

opens : OpensComment (codes "%{")
opens = ((lit< tt, refl), (lit< tt, refl))

opens_none : OpensComment (codes "%a") → ⊥
opens_none h = let e = h.1.1 in omega (arith, e)

closes : ClosesComment (codes "a}%") 1
closes = ((lit< tt, refl), (lit< tt, refl))

closes_none : ClosesComment (codes "a}a") 1 → ⊥
closes_none h = let e = h.1.1 in omega (arith, e)

-- ---- parts

a_space : BeginsWithSpace (codes " a") 1
a_space = record { one_byte = refl; there = lit< tt; space = inl refl }

no_two_spaces : BeginsWithSpace (codes "  ") 2 → ⊥
no_two_spaces h = let e = h.one_byte in omega (arith, e)

no_space_at_the_end : BeginsWithSpace [] 1 → ⊥
no_space_at_the_end h = let low = h.there in omega (arith, low)

a_line_comment : BeginsWithLineComment (37 ∷ 97 ∷ 10 ∷ 98 ∷ []) 2
a_line_comment = record {
  percent = (lit< tt, refl);
  no_block = λ h. let e = h.1.1 in omega (arith, e);
  within = lit≤ tt;
  one_line = line;
  up_to_end = λ low. refl;
}
  where
    line : (k : ℕ) → k < 2 → slice_index (37 ∷ 97 ∷ 10 ∷ 98 ∷ []) k ≡ 10 → ⊥
    line zero low e = omega (arith, e)
    line (suc zero) low e = omega (arith, e)
    line (suc (suc k)) low e = omega (arith, low)

no_shorter_line : BeginsWithLineComment (37 ∷ 97 ∷ 10 ∷ 98 ∷ []) 1 → ⊥
no_shorter_line h = let e = h.up_to_end (lit< tt) in omega (arith, e)

no_longer_line : BeginsWithLineComment (37 ∷ 97 ∷ 10 ∷ 98 ∷ []) 4 → ⊥
no_longer_line h = h.one_line (suc (suc zero)) (lit< tt) refl

no_line_behind_the_end : BeginsWithLineComment (37 ∷ 97 ∷ []) 3 → ⊥
no_line_behind_the_end h = let low = h.within in omega (arith, low)

no_line_without_its_mark : BeginsWithLineComment (97 ∷ 97 ∷ []) 2 → ⊥
no_line_without_its_mark h = let e = h.percent.1 in omega (arith, e)

no_line_in_a_block : BeginsWithLineComment (codes "%{a}%") 5 → ⊥
no_line_in_a_block h = h.no_block ((lit< tt, refl), (lit< tt, refl))

a_block_comment : BeginsWithBlockComment (codes "%{a}%b") 5
a_block_comment = record {
  opens = ((lit< tt, refl), (lit< tt, refl));
  close = 3;
  behind = lit≤ tt;
  closes = ((lit< tt, refl), (lit< tt, refl));
  next = first;
  length_is = refl;
}
  where
    first : (k : ℕ) → 2 ≤ k → k < 3 → ClosesComment (codes "%{a}%b") k → ⊥
    first zero two low h = omega (arith, two)
    first (suc zero) two low h = omega (arith, two)
    first (suc (suc zero)) two low h = let e = h.0.1 in omega (arith, e)
    first (suc (suc (suc k))) two low h = omega (arith, low)

no_second_close : BeginsWithBlockComment (codes "%{}%}%") 6 → ⊥
no_second_close h = h.next 2 (lit≤ tt) (let e = h.length_is in omega (arith, e)) ((lit< tt, refl), (lit< tt, refl))

a_word : BeginsWithWord (codes "a_ ") 2
a_word = record { some = lit< tt; within = lit≤ tt; letter = letters.2; name_bytes = each }
  where
    each : (k : ℕ) → k < 2 → IsNameByte (slice_index (codes "a_ ") k)
    each zero low = inl letters.2
    each (suc zero) low = inr (inr refl)
    each (suc (suc k)) low = absurd (omega (arith, low))

no_word_of_nothing : BeginsWithWord (codes "a") 0 → ⊥
no_word_of_nothing h = let low = h.some in omega (arith, low)

no_word_behind_the_end : BeginsWithWord (codes "a") 2 → ⊥
no_word_behind_the_end h = let low = h.within in omega (arith, low)

no_word_of_a_digit : BeginsWithWord (codes "1a") 2 → ⊥
no_word_of_a_digit h = let l = h.letter in omega (arith, l)

no_word_over_a_space : BeginsWithWord (codes "a b") 3 → ⊥
no_word_over_a_space h = let l = h.name_bytes 1 (lit< tt) in omega (arith, l)

a_numeral : BeginsWithNumeral (codes "10a") 2
a_numeral = record { some = lit< tt; within = lit≤ tt; digits = each }
  where
    each : (k : ℕ) → k < 2 → IsDigit (slice_index (codes "10a") k)
    each zero low = (lit≤ tt, lit≤ tt)
    each (suc zero) low = digits.0
    each (suc (suc k)) low = absurd (omega (arith, low))

no_numeral_of_nothing : BeginsWithNumeral (codes "1") 0 → ⊥
no_numeral_of_nothing h = let low = h.some in omega (arith, low)

no_numeral_behind_the_end : BeginsWithNumeral (codes "1") 2 → ⊥
no_numeral_behind_the_end h = let low = h.within in omega (arith, low)

no_numeral_with_a_letter : BeginsWithNumeral (codes "1a") 2 → ⊥
no_numeral_with_a_letter h = let l = h.digits 1 (lit< tt) in omega (arith, l)

a_mark : BeginsWithMark (codes "=>a") 2
a_mark = record { mark = marks.Arrow; length_is = refl; written = refl }

of_each_kind : BeginsPart Space (codes " a") 1 × BeginsPart Word (codes "a_ ") 2 × BeginsPart Numeral (codes "10a") 2
of_each_kind = (a_space, a_word, a_numeral)

no_shorter_word : BeginsLongest Word (codes "a_ ") 1 → ⊥
no_shorter_word h = let low = h.longest Word 2 a_word in omega (arith, low)

-- ---- what token a part is

makes_none : Makes Space (codes " ") None × Makes LineComment (codes "%a") None × Makes BlockComment (codes "%{}%") None
makes_none = (tt, tt, tt)

makes_tokens : Makes Word (codes "end") (Some (kinds.Reserved words.End)) × Makes Sign (codes "=>") (Some (kinds.Mark marks.Arrow))
    × Makes Numeral (codes "10") (Some (kinds.Number 10))
makes_tokens = (refl, refl, (refl, lit< tt))

no_name_is_reserved : Makes Word (codes "end") (Some (kinds.Ident (codes "end"))) → ⊥
no_name_is_reserved h = h.1 words.End refl

no_space_is_a_token : Makes Space (codes " ") (Some (kinds.Ident (codes " "))) → ⊥
no_space_is_a_token h = h

no_word_is_none : Makes Word (codes "a") None → ⊥
no_word_is_none h = h

no_numeral_is_a_name : Makes Numeral (codes "1") (Some (kinds.Ident (codes "1"))) → ⊥
no_numeral_is_a_name h = h

no_number_of_more_bits : Makes Numeral (codes "340282366920938463463374607431768211456") (Some (kinds.Number 340282366920938463463374607431768211456)) → ⊥
no_number_of_more_bits h = let low = h.1 in omega (arith, low)
