-- Inner: comments and words at the beginning of a text.
use Rattle.std.proofs.Common.{◌≡◌, ℕ, ◌+◌, ◌<◌, ◌≤◌, ◌==◌, suc, true, false, ◌&&◌, List, [], ◌∷◌, length, take, drop, get_or}
use Rattle.std.proofs.Common.{Option, Some, None, refl, sym, ◌∙◌, ap, arith}
use Rattle.std.specs.Prelude.{if◌then◌else◌}
use Rattle.std.specs.List.{prefix_len}
use Rattle.std.proofs.Math.Seq.{drop-cons}
use Rattle.std.proofs.lemmas.List.{length-drop}
use Rattle.std.proofs.lemmas.Bool.{false≢true}
use Rattle.csub_text.specs.Tokens.{Gap, Lexeme, front, is_space, begins_name, word_kind, mark_kind, mark_front}
use Rattle.csub_text.specs.Tokens.{slash_front, one_more, closed_after}
use Rattle.base_types.specs.Names.{is_name_byte}
use Rattle.net_expressions.specs.Plain.{front_at}
use Rattle.csub_read.specs.Tokens.{more_by}

-- ---- the end of a comment

more-one : (i : ℕ) (o : Option ℕ) → more_by i (one_more o) ≡ more_by (i + 1) o
more-one i None = refl
more-one i (Some k) = ap Some (let e : k + 1 + i ≡ k + (i + 1) = omega arith in e)

pub more-none : (o : Option ℕ) → more_by 0 o ≡ o
more-none None = refl
more-none (Some k) = ap Some (let e : k + 0 ≡ k = omega arith in e)

two-at : (xs : List ℕ) (i : ℕ) → i + 1 < length xs → drop i xs ≡ get_or xs i 0 ∷ get_or xs (i + 1) 0 ∷ drop (i + 2) xs
two-at xs i low =
    let n : suc i ≡ i + 1 = omega arith in
    let m : suc (i + 1) ≡ i + 2 = omega arith in
    drop-cons xs i 0 (omega (arith, low)) ∙ ap (λ k. get_or xs i 0 ∷ drop k xs) n
    ∙ ap (λ l. get_or xs i 0 ∷ l) (drop-cons xs (i + 1) 0 low ∙ ap (λ k. get_or xs (i + 1) 0 ∷ drop k xs) m)

one-at : (xs : List ℕ) (i : ℕ) → i + 1 < length xs → drop (i + 1) xs ≡ get_or xs (i + 1) 0 ∷ drop (i + 2) xs
one-at xs i low =
    let m : suc (i + 1) ≡ i + 2 = omega arith in
    drop-cons xs (i + 1) 0 low ∙ ap (λ k. get_or xs (i + 1) 0 ∷ drop k xs) m

pub closed-more : (xs : List ℕ) (i : ℕ) → i + 1 < length xs → (get_or xs i 0 == 42 && get_or xs (i + 1) 0 == 47) ≡ false
    → more_by i (closed_after (drop i xs)) ≡ more_by (i + 1) (closed_after (drop (i + 1) xs))
closed-more xs i low fails =
    ap (λ l. more_by i (closed_after l)) (two-at xs i low)
    ∙ ap (λ b. more_by i (if b then Some 2 else one_more (closed_after (get_or xs (i + 1) 0 ∷ drop (i + 2) xs)))) fails
    ∙ more-one i (closed_after (get_or xs (i + 1) 0 ∷ drop (i + 2) xs)) ∙ ap (λ l. more_by (i + 1) (closed_after l)) (sym (one-at xs i low))

pub closed-here : (xs : List ℕ) (i : ℕ) → i + 1 < length xs → (get_or xs i 0 == 42 && get_or xs (i + 1) 0 == 47) ≡ true
    → more_by i (closed_after (drop i xs)) ≡ Some (i + 2)
closed-here xs i low passes =
    ap (λ l. more_by i (closed_after l)) (two-at xs i low)
    ∙ ap (λ b. more_by i (if b then Some 2 else one_more (closed_after (get_or xs (i + 1) 0 ∷ drop (i + 2) xs)))) passes
    ∙ ap Some (let e : 2 + i ≡ i + 2 = omega arith in e)

short-none : (xs : List ℕ) → length xs ≤ 1 → closed_after xs ≡ None
short-none [] few = refl
short-none (c ∷ []) few = refl
short-none (c ∷ d ∷ cs) few = absurd (omega (arith, few))

pub closed-end : (xs : List ℕ) (i : ℕ) → length xs ≤ i + 1 → more_by i (closed_after (drop i xs)) ≡ None
closed-end xs i high = let n = length-drop i xs in ap (more_by i) (short-none (drop i xs) (omega (arith, high, n)))

one-low : (n : ℕ) (o : Option ℕ) → ((k : ℕ) → o ≡ Some k → k ≤ n) → (k : ℕ) → one_more o ≡ Some k → k ≤ n + 1
one-low n None low k at = let e : false ≡ true = cc in absurd (false≢true e)
one-low n (Some j) low k at = let e : j + 1 ≡ k = cc in omega (arith, e, low j refl)

-- a comment ends within the text
pub closed-within : (xs : List ℕ) (n : ℕ) → closed_after xs ≡ Some n → n ≤ length xs
closed-within [] n at = let e : false ≡ true = cc in absurd (false≢true e)
closed-within (c ∷ []) n at = let e : false ≡ true = cc in absurd (false≢true e)
closed-within (c ∷ d ∷ cs) n at =
    elim (c == 42 && d == 47) as (λ b. (if b then Some 2 else one_more (closed_after (d ∷ cs))) ≡ Some n → n ≤ length (c ∷ d ∷ cs)) [
      | true ↦ λ e. let two : 2 ≡ n = cc in omega (arith, two)
      | false ↦ λ e. let h = one-low (length (d ∷ cs)) (closed_after (d ∷ cs))
          (λ k. closed-within (d ∷ cs) k) n e in omega (arith, h)
    ] at

-- ---- a word

pub word-front : (text : List ℕ) (d : ℕ) → 0 < length text → is_space (get_or text 0 d) ≡ false → (get_or text 0 d == 47) ≡ false
    → begins_name (get_or text 0 d) ≡ true
    → Lexeme (prefix_len is_name_byte (drop 1 text)) (word_kind (take (1 + prefix_len is_name_byte (drop 1 text)) text)) ≡ front_at front text
word-front [] d some space slash begins = absurd (omega (arith, some))
word-front (c ∷ cs) d some space slash begins =
    let n = prefix_len is_name_byte cs in
    let e : 1 + n ≡ suc n = omega arith in
    ap (λ k. Lexeme n (word_kind (take k (c ∷ cs)))) e
    ∙ sym (ap (λ b. if b then Gap 0 else (if c == 47 then slash_front cs else
    (if begins_name c then Lexeme n (word_kind (c ∷ take n cs)) else mark_front (mark_kind c)))) space
    ∙ ap (λ b. if b then slash_front cs else (if begins_name c then Lexeme n (word_kind (c ∷ take n cs)) else mark_front (mark_kind c))) slash
    ∙ ap (λ b. if b then Lexeme n (word_kind (c ∷ take n cs)) else mark_front (mark_kind c)) begins)
