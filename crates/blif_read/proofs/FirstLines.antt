-- The first line of a text, and lines that are joined, one after another.
use Rattle.std.proofs.Common.{◌≡◌, ℕ, ◌+◌, ◌-◌, ◌<◌, Bool, true, false, not, ◌==◌, ◌&&◌, List, [], ◌∷◌, ◌++◌, length, map, get_or, take, drop, refl}
use Rattle.std.proofs.Common.{sym, ap, ◌∙◌, arith, append_assoc, suc, ⊎_elim}
use Rattle.std.specs.Prelude.{if◌then◌else◌}
use Rattle.std.specs.List.{position_or_len, before_first, after_first}
use Rattle.std.proofs.Math.Bool.{and-false, and-true}
use Rattle.std.proofs.lemmas.Bool.{eqb-true, both_ways, cases_lt}
use Rattle.std.proofs.lemmas.List.{length-take, get_or-take}
use Rattle.std.proofs.lemmas.List.Sums.{prefix_len-le-length, fails_before_first, passes_at_first, split_at_first}
use Rattle.blif_text.specs.Lines.{text_lines, without_comment, ends_with, Line, join, joined, is_empty}
use Rattle.blif_read.specs.Rests.{lines_left, continued}

-- the last byte
pub ends_with-last : (b : ℕ) (xs : List ℕ) → 0 < length xs → ends_with b xs ≡ (get_or xs (length xs - 1) 0 == b)
ends_with-last b [] some = absurd (omega arith)
ends_with-last b (x ∷ []) some = refl
ends_with-last b (x ∷ y ∷ xs) some =
    let e : length (x ∷ y ∷ xs) - 1 ≡ suc (length (y ∷ xs) - 1) = omega arith in
    ends_with-last b (y ∷ xs) (omega arith) ∙ ap (λ n. get_or (x ∷ y ∷ xs) n 0 == b) (sym e)

pub ends_with-some : (b : ℕ) (xs : List ℕ) → ends_with b xs ≡ true → 0 < length xs
ends_with-some b [] ends = absurd (both_ways false refl ends)
ends_with-some b (x ∷ xs) ends = omega arith

-- a line without the carriage return before its line feed
abbrev pub stripped : List ℕ → List ℕ
stripped line = if ends_with 13 line then take (length line - 1) line else line

stripped-cons : (c d : ℕ) (cs : List ℕ) → stripped (c ∷ d ∷ cs) ≡ c ∷ stripped (d ∷ cs)
stripped-cons c d cs =
    let e : length (c ∷ d ∷ cs) - 1 ≡ suc (length (d ∷ cs) - 1) = omega arith in
    go (ends_with 13 (d ∷ cs)) (take (length (c ∷ d ∷ cs) - 1) (c ∷ d ∷ cs)) (take (length (d ∷ cs) - 1) (d ∷ cs)) (ap (λ n. take n (c ∷ d ∷ cs)) e)
  where
    go : (b : Bool) (long short : List ℕ) → long ≡ c ∷ short → (if b then long else c ∷ d ∷ cs) ≡ c ∷ (if b then short else d ∷ cs)
    go true long short same = same
    go false long short same = refl

-- no byte is a line feed
abbrev NoFeed : List ℕ → Type 0
NoFeed line = (k : ℕ) → k < length line → (get_or line k 0 == 10) ≡ false

-- a line, its line feed, and what stands behind it
text_lines-feed : (line rest : List ℕ) → NoFeed line → text_lines (line ++ 10 ∷ rest) ≡ stripped line ∷ text_lines rest
text_lines-feed [] rest none = refl
text_lines-feed (c ∷ []) rest none = go (c == 10) (c == 13) (none 0 (omega arith))
  where
    go : (feed return : Bool) → feed ≡ false
        → (if feed then [] ∷ [] ∷ text_lines rest else (if return && true then [] ∷ text_lines rest else (c ∷ []) ∷ text_lines rest))
        ≡ (if return then [] else c ∷ []) ∷ text_lines rest
    go true return e = cc
    go false true e = refl
    go false false e = refl
text_lines-feed (c ∷ d ∷ cs) rest none =
    let others = text_lines-feed (d ∷ cs) rest (λ k h. none (suc k) (omega arith)) in
    let here : (c == 10) ≡ false = none 0 (omega arith) in
    let next : (d == 10) ≡ false = none 1 (omega arith) in
    rw (others, here, next, and-false (c == 13)) (ap (λ l. l ∷ text_lines rest) (sym (stripped-cons c d cs)))

-- a last line
text_lines-last : (line : List ℕ) → 0 < length line → NoFeed line → text_lines line ≡ line ∷ []
text_lines-last [] some none = absurd (omega arith)
text_lines-last (c ∷ []) some none =
    let here : (c == 10) ≡ false = none 0 (omega arith) in rw (here, and-false (c == 13)) refl
text_lines-last (c ∷ d ∷ cs) some none =
    let others = text_lines-last (d ∷ cs) (omega arith) (λ k h. none (suc k) (omega arith)) in
    let here : (c == 10) ≡ false = none 0 (omega arith) in
    let next : (d == 10) ≡ false = none 1 (omega arith) in
    rw (others, here, next, and-false (c == 13)) refl

abbrev pub is_feed : ℕ → Bool
is_feed c = c == 10

no_feed_before : (text : List ℕ) → NoFeed (before_first is_feed text)
no_feed_before text k h =
    let n = position_or_len is_feed text in
    let short : k < n = omega (arith, length-take n text) in
    ap (λ c. c == 10) (get_or-take n text k 0 short) ∙ fails_before_first is_feed text k 0 short

-- the first line of a text with a line feed, and the text behind it
pub first_line-feed : (text : List ℕ) → position_or_len is_feed text < length text
    → text_lines text ≡ stripped (take (position_or_len is_feed text) text) ∷ text_lines (drop (position_or_len is_feed text + 1) text)
first_line-feed text some =
    let n = position_or_len is_feed text in
    let feed : get_or text n 0 ≡ 10 = eqb-true (get_or text n 0) 10 (passes_at_first is_feed text 0 some) in
    let whole : text ≡ before_first is_feed text ++ (10 ∷ after_first is_feed text) = split_at_first is_feed text 0 some
    ∙ ap (λ c. before_first is_feed text ++ (c ∷ after_first is_feed text)) feed in
    ap text_lines whole ∙ text_lines-feed (before_first is_feed text) (after_first is_feed text) (no_feed_before text)

-- a text without a line feed
pub first_line-last : (text : List ℕ) → 0 < length text → position_or_len is_feed text ≡ length text → text_lines text ≡ text ∷ []
first_line-last text some none =
    text_lines-last text some (λ k h. fails_before_first is_feed text k 0 (omega arith))

-- ---- lines that are joined

abbrev pub line_of : ℕ → List ℕ → Line
line_of n bytes = record { number = n; bytes = bytes }

-- a text that is not empty has a first line
text_lines-some : {C : Type 0} (text : List ℕ) → 0 < length text → ((l : List ℕ) (ls : List (List ℕ)) → text_lines text ≡ l ∷ ls → C) → C
text_lines-some text some then_so =
    ⊎_elim
    (λ low. then_so (stripped (take (position_or_len is_feed text) text)) (text_lines (drop (position_or_len is_feed text + 1) text))
    (first_line-feed text low))
    (λ high. let within = prefix_len-le-length (λ c. not (is_feed c)) text in then_so text [] (first_line-last text some (omega arith)))
    (cases_lt (position_or_len is_feed text) (length text))

join-cons : {C : Type 0} (n : ℕ) (l : List ℕ) (more : List Line) → ((first : Line) (others : List Line) → join n l more ≡ first ∷ others → C) → C
join-cons {C = C} n l [] then_so = then_so (line_of n l) [] refl
join-cons {C = C} n l (next ∷ others) then_so = go (ends_with 92 l) refl
  where
    go : (b : Bool) → ends_with 92 l ≡ b → C
    go true e = then_so (line_of n (take (length l - 1) l ++ next.bytes)) others (rw e refl)
    go false e = then_so (line_of n l) (next ∷ others) (rw e refl)

-- so it has a first line that is read
left-some : {C : Type 0} (n : ℕ) (text : List ℕ) → 0 < length text → ((first : Line) (others : List Line) → lines_left n text ≡ first ∷ others → C) → C
left-some n text some then_so = text_lines-some text some (λ l ls e.
    join-cons n (without_comment l) (joined (n + 1) (map without_comment ls)) (λ first others f.
    then_so first others (ap (λ t. joined n (map without_comment t)) e ∙ f)))

-- a line that is not joined to the next stands alone
pub joined-alone : (n : ℕ) (l rest : List ℕ) → (ends_with 92 l && not (is_empty rest)) ≡ false
    → joined n (l ∷ map without_comment (text_lines rest)) ≡ line_of n l ∷ lines_left (n + 1) rest
joined-alone n l [] alone = refl
joined-alone n l (c ∷ cs) alone =
    let ends : ends_with 92 l ≡ false = sym (and-true (ends_with 92 l)) ∙ alone in
    left-some (n + 1) (c ∷ cs) (omega arith) (λ first others e.
    ap (join n l) e ∙ rw ends refl ∙ ap (λ ls. line_of n l ∷ ls) (sym e))

-- a line that is joined to the next begins a longer one
pub joined-continued : (n : ℕ) (l rest : List ℕ) → (ends_with 92 l && not (is_empty rest)) ≡ true
    → joined n (l ∷ map without_comment (text_lines rest)) ≡ continued n (take (length l - 1) l) (lines_left (n + 1) rest)
joined-continued n l [] goes = absurd (both_ways (ends_with 92 l && false) (and-false (ends_with 92 l)) goes)
joined-continued n l (c ∷ cs) goes =
    let ends : ends_with 92 l ≡ true = sym (and-true (ends_with 92 l)) ∙ goes in
    left-some (n + 1) (c ∷ cs) (omega arith) (λ first others e.
    ap (join n l) e ∙ rw ends refl ∙ ap (continued n (take (length l - 1) l)) (sym e))

-- more bytes in front of a line that goes on
pub continued-front : (m n : ℕ) (front more : List ℕ) (lines : List Line) → 0 < length lines
    → continued m front (continued n more lines) ≡ continued m (front ++ more) lines
continued-front m n front more [] some = absurd (omega arith)
continued-front m n front more (next ∷ lines) some =
    ap (λ b. line_of m b ∷ lines) (sym (append_assoc front more next.bytes))

pub more_behind : (ends : Bool) (rest : List ℕ) → (ends && not (is_empty rest)) ≡ true → 0 < length rest
more_behind ends [] goes = absurd (both_ways (ends && false) (and-false ends) goes)
more_behind ends (c ∷ cs) goes = omega arith

pub length-lines_left : (n : ℕ) (rest : List ℕ) → 0 < length rest → 0 < length (lines_left n rest)
length-lines_left n rest some =
    left-some n rest some (λ first others e. let len = ap length e in omega arith)
