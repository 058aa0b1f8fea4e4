-- Every text is cut into pieces up to its end or up to a fault.
use Rattle.std.proofs.Common.{◌≡◌, ℕ, zero, suc, ◌+◌, ◌<◌, ◌≤◌, ◌≢◌, ◌⊎◌, ◌^◌, Bool, true, false, not, ◌&&◌, eqb, ltb, List, [], ◌∷◌, length, get_or, take}
use Rattle.std.proofs.Common.{drop, Option, None, refl, sym, ◌∙◌, ap, inl, inr, ⊎_elim, arith}
use Rattle.std.specs.Str.{bytes_eq}
use Rattle.std.specs.List.{prefix_len}
use Rattle.std.proofs.lemmas.List.{length-drop}
use Rattle.std.proofs.lemmas.Bool.{cases_lt}
use Rattle.std.proofs.lemmas.Bool.Decides.{nat_tests}
use Rattle.std.proofs.lemmas.Slice.Eq.{bytes_eq-Decides}
use Rattle.std.proofs.lemmas.List.Sums.{prefix_len-le-length, prefix_len_passes, prefix_len_stops}
use Rattle.base_types.specs.Names.{is_letter, is_digit, is_name_byte}
use Rattle.est_ast.specs.declared.tokens.Kind.{Kind}
use Rattle.est_ast.specs.declared.tokens.Reserved.{Reserved as ReservedWord}
use Rattle.est_ast.specs.Spelling.{spelling, sign}
use Rattle.est_ast.specs.Lexemes.{IsLetter, IsDigit, IsNameByte, HasByte, OpensComment, ClosesComment, BeginsWithMark}
use Rattle.est_ast.specs.Lexing.{number_of, IsFrontToken, TextPiece, Cuts, width_of, tokens_from, BeginsWithBadByte, BeginsWithOpenComment, BeginsWithBigNumber}
use Rattle.est_ast.specs.Lexing.{Lexing}
use Rattle.est_ast.specs.Lexing.{Tokens, BadByte, OpenComment, BigNumber, LexesAs}
use Rattle.est_ast.proofs.Classes.{space_test, space_told, letter_told, digit_told, name_told, run_of}
use Rattle.est_ast.proofs.Heads.{mark_head, within}
use Rattle.est_ast.proofs.OneToken.{read_word, read-spelling, mark_of, mark_of-head}
use Rattle.est_ast.proofs.Fronts.{space_front, line_front, block_front, reserved_front, ident_front, number_front, big_front, mark_front, IsOther, bad_front}

-- a piece or a fault stands at the front of a text
pub data Stands (text : List ℕ) : Type 0 where
  piece : (width : ℕ) (token : Option Kind) → IsFrontToken text width token → Stands text
  bad_byte : BeginsWithBadByte text → Stands text
  open_comment : BeginsWithOpenComment text → Stands text
  big_number : BeginsWithBigNumber text → Stands text

either_way : (b : Bool) → (b ≡ true) ⊎ (b ≡ false)
either_way true = inl refl
either_way false = inr refl

-- words

same_or_not : (bytes other : List ℕ) → (bytes ≡ other) ⊎ (bytes ≢ other)
same_or_not bytes other =
    let told = bytes_eq-Decides bytes other in
    ⊎_elim (λ (same : bytes_eq bytes other ≡ true). inl (told.0 same))
    (λ (apart : bytes_eq bytes other ≡ false). inr (λ is. let yes : bytes_eq bytes other ≡ true = told.1 is in cc))
    (either_way (bytes_eq bytes other))

is_reserved : (bytes : List ℕ) → ((word : ReservedWord) × (bytes ≡ spelling word)) ⊎ ((word : ReservedWord) → bytes ≢ spelling word)
is_reserved bytes =
    ⊎_elim (λ (same : bytes ≡ spelling (read_word bytes)). inl (read_word bytes, same))
    (λ (apart : bytes ≢ spelling (read_word bytes)). inr (λ word is. apart (is ∙ ap spelling (sym (ap read_word is ∙ read-spelling word)))))
    (same_or_not bytes (spelling (read_word bytes)))

word_stands : (text : List ℕ) → 0 < length text → IsLetter (get_or text 0 0) → Stands text
word_stands text some letter =
    let n = prefix_len is_name_byte text in
    let run = run_of is_name_byte IsNameByte name_told text in
    ⊎_elim (λ (found : (word : ReservedWord) × (take n text ≡ spelling word)). piece n _ (reserved_front text n found.0 some letter run found.1))
    (λ (other : (word : ReservedWord) → take n text ≢ spelling word). piece n _ (ident_front text n some letter run other))
    (is_reserved (take n text))

numeral_stands : (text : List ℕ) → 0 < length text → IsDigit (get_or text 0 0) → Stands text
numeral_stands text some digit =
    let n = prefix_len is_digit text in
    let run = run_of is_digit IsDigit digit_told text in
    ⊎_elim (λ (fits : number_of (take n text) < 2 ^ 128). piece n _ (number_front text n some digit run fits))
    (λ (big : 2 ^ 128 ≤ number_of (take n text)). big_number (big_front text n some digit run big))
    (cases_lt (number_of (take n text)) (2 ^ 128))

-- a mark begins the text only if it is the one that its first byte names
no_mark : (text : List ℕ) → take (length (sign (mark_of (get_or text 0 0)))) text ≢ sign (mark_of (get_or text 0 0)) → (n : ℕ) → ¬ BeginsWithMark text n
no_mark text apart n begins =
    let is : mark_of (get_or text 0 0) ≡ begins.mark = ap mark_of (mark_head text n begins) ∙ mark_of-head begins.mark in
    apart (rw (is, ← begins.length_is) begins.written)

mark_stands : (text : List ℕ) → 0 < length text → IsOther (get_or text 0 0) → Stands text
mark_stands text some other =
    let mark = mark_of (get_or text 0 0) in
    ⊎_elim (λ (same : take (length (sign mark)) text ≡ sign mark). let begins : BeginsWithMark text (length (sign mark)) =
    record { mark = mark; length_is = refl; written = same } in piece (length (sign mark)) _ (mark_front text (length (sign mark)) begins))
    (λ (apart : take (length (sign mark)) text ≢ sign mark). bad_byte (bad_front text some other (no_mark text apart)))
    (same_or_not (take (length (sign mark)) text) (sign mark))

-- comments

-- the first place from here on, before an end, that passes a test, or that none does
first_place : (test : ℕ → Bool) (from count : ℕ) → ((k : ℕ) × (from ≤ k) × (test k ≡ true) × ((j : ℕ) → from ≤ j → j < k → test j ≡ false))
    ⊎ ((j : ℕ) → from ≤ j → j < from + count → test j ≡ false)
first_place test from zero = inr (λ j low high. absurd (omega arith))
first_place test from (suc count) =
    ⊎_elim (λ (found : (k : ℕ) × (from ≤ k) × (test k ≡ true) × ((j : ℕ) → from ≤ j → j < k → test j ≡ false)). inl found)
    (λ (none : (j : ℕ) → from ≤ j → j < from + count → test j ≡ false).
    ⊎_elim (λ (yes : test (from + count) ≡ true). inl (from + count, omega arith, yes, none))
    (λ (no : test (from + count) ≡ false). inr (λ j low high. ⊎_elim (λ (below : j < from + count). none j low below)
    (λ (at : from + count ≤ j). let here : j ≡ from + count = omega arith in rw here no) (cases_lt j (from + count))))
    (either_way (test (from + count))))
    (first_place test from count)

abbrev closes_test : List ℕ → ℕ → Bool
closes_test text place = ltb (place + 1) (length text) && (eqb (get_or text place 0) 125 && eqb (get_or text (place + 1) 0) 37)

closes_yes : (text : List ℕ) (place : ℕ) → closes_test text place ≡ true → ClosesComment text place
closes_yes text place h = ((grind (arith, nat_tests), grind (arith, nat_tests)), (grind (arith, nat_tests), grind (arith, nat_tests)))

closes_no : (text : List ℕ) (place : ℕ) → closes_test text place ≡ false → ¬ ClosesComment text place
closes_no text place h closes = grind (arith, nat_tests, closes.0.0, closes.0.1, closes.1.0, closes.1.1)

block_stands : (text : List ℕ) → OpensComment text → Stands text
block_stands text opens =
    ⊎_elim (λ (found : (k : ℕ) × (2 ≤ k) × (closes_test text k ≡ true) × ((j : ℕ) → 2 ≤ j → j < k → closes_test text j ≡ false)).
    piece (found.0 + 2) None (block_front text (found.0 + 2) (record {
      opens = opens;
      close = found.0;
      behind = found.1;
      closes = closes_yes text found.0 found.2;
      next = λ j low high. closes_no text j (found.3 j low high);
      length_is = refl;
    })))
    (λ (none : (j : ℕ) → 2 ≤ j → j < 2 + length text → closes_test text j ≡ false).
    open_comment (record {
      opens = opens;
      never_closed = λ place low closes. closes_no text place (none place low (omega (arith, closes.0.0))) closes;
    }))
    (first_place (closes_test text) 2 (length text))

line_stands : (text : List ℕ) → HasByte text 0 37 → ¬ OpensComment text → Stands text
line_stands text percent no_block =
    let n = prefix_len (λ byte. not (eqb byte 10)) text in
    piece n None (line_front text n (record {
      percent = percent;
      no_block = no_block;
      within = prefix_len-le-length (λ byte. not (eqb byte 10)) text;
      one_line = λ k below. let passes = prefix_len_passes (λ byte. not (eqb byte 10)) text k 0 below in grind (arith, nat_tests);
      up_to_end = λ below. let stops = prefix_len_stops (λ byte. not (eqb byte 10)) text 0 below in grind (arith, nat_tests);
    }))

abbrev opens_test : List ℕ → Bool
opens_test text = ltb 1 (length text) && eqb (get_or text 1 0) 123

comment_stands : (text : List ℕ) → HasByte text 0 37 → Stands text
comment_stands text percent =
    ⊎_elim (λ (yes : opens_test text ≡ true). block_stands text (percent, (grind (arith, nat_tests), grind (arith, nat_tests))))
    (λ (no : opens_test text ≡ false). line_stands text percent (λ opens. grind (arith, nat_tests, opens.1.0, opens.1.1)))
    (either_way (opens_test text))

-- any text

text_stands : (text : List ℕ) → 0 < length text → Stands text
text_stands text some =
    let byte = get_or text 0 0 in
    ⊎_elim (λ (space : space_test byte ≡ true). piece 1 None (space_front text some (space_told.yes byte space)))
    (λ (no_space : space_test byte ≡ false).
    ⊎_elim (λ (percent : eqb byte 37 ≡ true). comment_stands text (some, grind (arith, nat_tests)))
    (λ (no_percent : eqb byte 37 ≡ false).
    ⊎_elim (λ (letter : is_letter byte ≡ true). word_stands text some (letter_told.yes byte letter))
    (λ (no_letter : is_letter byte ≡ false).
    ⊎_elim (λ (digit : is_digit byte ≡ true). numeral_stands text some (digit_told.yes byte digit))
    (λ (no_digit : is_digit byte ≡ false). mark_stands text some (record {
      no_space = space_told.no byte no_space;
      no_percent = λ is. grind (arith, nat_tests);
      no_letter = letter_told.no byte no_letter;
      no_digit = digit_told.no byte no_digit;
    }))
    (either_way (is_digit byte)))
    (either_way (is_letter byte)))
    (either_way (eqb byte 37)))
    (either_way (space_test byte))

-- a cut up to the end or to a fault
pub record Cut (text : List ℕ) : Type 0 where
  pub pieces : List TextPiece
  pub rest : List ℕ
  pub cut : Cuts pieces text rest
  pub ends : (rest ≡ []) ⊎ (BeginsWithBadByte rest ⊎ (BeginsWithOpenComment rest ⊎ BeginsWithBigNumber rest))

stays : (text : List ℕ) → ((text ≡ []) ⊎ (BeginsWithBadByte text ⊎ (BeginsWithOpenComment text ⊎ BeginsWithBigNumber text))) → Cut text
stays text ends = record { pieces = []; rest = text; cut = refl; ends = ends }

cut_of : (room : ℕ) (text : List ℕ) → length text ≤ room → Cut text
cut_of room [] fits = stays [] (inl refl)
cut_of zero (byte ∷ text) fits = absurd (omega arith)
cut_of (suc room) (byte ∷ text) fits = go (cut_of room) (text_stands (byte ∷ text) (omega arith))
  where
    go : ((next : List ℕ) → length next ≤ room → Cut next) → Stands (byte ∷ text) → Cut (byte ∷ text)
    go again (piece width token front) =
        let some = within front.part (byte ∷ text) width front.longest.begins in
        let rest = again (drop width (byte ∷ text)) (omega (arith, length-drop width (byte ∷ text))) in
        record { pieces = record { width = width; token = token } ∷ rest.pieces; rest = rest.rest; cut = (front, rest.cut); ends = rest.ends }
    go again (bad_byte fault) = stays (byte ∷ text) (inr (inl fault))
    go again (open_comment fault) = stays (byte ∷ text) (inr (inr (inl fault)))
    go again (big_number fault) = stays (byte ∷ text) (inr (inr (inr fault)))

pub some_lexing : (text : List ℕ) → (lexing : Lexing) × LexesAs text lexing
some_lexing text =
    let found = cut_of (length text) text (omega arith) in
    ⊎_elim (λ (ends : found.rest ≡ []). (
      Tokens (tokens_from 0 found.pieces),
      record { pieces = found.pieces; rest = found.rest; cut = found.cut; comes_to = (ends, refl) },
    ))
    (λ (fault : BeginsWithBadByte found.rest ⊎ (BeginsWithOpenComment found.rest ⊎ BeginsWithBigNumber found.rest)).
    ⊎_elim (λ (bad : BeginsWithBadByte found.rest). (
      BadByte (width_of found.pieces),
      record { pieces = found.pieces; rest = found.rest; cut = found.cut; comes_to = (bad, refl) },
    ))
    (⊎_elim (λ (opened : BeginsWithOpenComment found.rest). (
      OpenComment (width_of found.pieces),
      record { pieces = found.pieces; rest = found.rest; cut = found.cut; comes_to = (opened, refl) },
    ))
    (λ (big : BeginsWithBigNumber found.rest). (
      BigNumber (width_of found.pieces),
      record { pieces = found.pieces; rest = found.rest; cut = found.cut; comes_to = (big, refl) },
    )))
    fault)
    found.ends
