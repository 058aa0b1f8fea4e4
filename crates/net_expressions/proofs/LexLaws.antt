-- Inner: the tokens from a place of a text on.
use Rattle.std.proofs.Common.{◌≡◌, ℕ, ◌+◌, ◌<◌, ◌≤◌, ◌==◌, zero, suc, Bool, true, false, cond, List, [], ◌∷◌, length, drop, get_or}
use Rattle.std.proofs.Common.{refl, sym, ◌∙◌, ap, arith}
use Rattle.std.specs.List.{prefix_len}
use Rattle.std.proofs.Math.Seq.{drop-cons}
use Rattle.std.proofs.lemmas.List.{length-drop, drop_all}
use Rattle.std.proofs.lemmas.Bool.{eqb-true}
use Rattle.net_expressions.specs.Lexemes.{PlacedToken, Front, Gap, Lexeme, Wrong, token_of, tokens_behind}
use Rattle.net_expressions.specs.Plain.{front_at}

-- ---- the bytes that begin a text

pub prefix-more : (p : ℕ → Bool) (xs : List ℕ) (i d : ℕ) → i < length xs → p (get_or xs i d) ≡ true → i + prefix_len p (drop i xs)
    ≡ (i + 1) + prefix_len p (drop (i + 1) xs)
prefix-more p xs i d low passes =
    let n : suc i ≡ i + 1 = omega arith in
    let step : prefix_len p (drop i xs) ≡ 1 + prefix_len p (drop (suc i) xs) = ap (prefix_len p) (drop-cons xs i d low)
    ∙ ap (λ b. cond b (1 + prefix_len p (drop (suc i) xs)) 0) passes in
    let same : prefix_len p (drop (suc i) xs) ≡ prefix_len p (drop (i + 1) xs) = ap (λ m. prefix_len p (drop m xs)) n in
    omega (arith, step, same)

pub prefix-stop : (p : ℕ → Bool) (xs : List ℕ) (i d : ℕ) → i < length xs → p (get_or xs i d) ≡ false → i + prefix_len p (drop i xs) ≡ i
prefix-stop p xs i d low fails =
    let step : prefix_len p (drop i xs) ≡ 0 = ap (prefix_len p) (drop-cons xs i d low) ∙ ap (λ b. cond b (1 + prefix_len p (drop (suc i) xs)) 0) fails in
    omega (arith, step)

pub prefix-end : (p : ℕ → Bool) (xs : List ℕ) (i : ℕ) → length xs ≤ i → i + prefix_len p (drop i xs) ≡ i
prefix-end p xs i high =
    let step : prefix_len p (drop i xs) ≡ 0 = ap (prefix_len p) (drop_all i xs high) in
    omega (arith, step)

drop-more : (i k : ℕ) (xs : List ℕ) → drop k (drop i xs) ≡ drop (i + k) xs
drop-more zero k xs = ap (λ n. drop n xs) (let e : k ≡ 0 + k = omega arith in e)
drop-more (suc i) k [] = drop_all k [] (omega arith) ∙ sym (drop_all (suc i + k) [] (omega arith))
drop-more (suc i) k (x ∷ xs) = drop-more i k xs ∙ ap (λ n. drop n (x ∷ xs)) (let e : suc (i + k) ≡ suc i + k = omega arith in e)

-- ---- tokens

pub differ-eqb : (n m : ℕ) → (n ≡ m → ⊥) → (n == m) ≡ false
differ-eqb n m apart = elim (n == m) as (λ b. (n == m) ≡ b → b ≡ false) [ true ↦ λ e. absurd (apart (eqb-true n m e)) | false ↦ λ e. refl ] refl

module _ {K : Type 0} (bad : K) (front : ℕ → List ℕ → Front K) where
  behind-drop : (k at : ℕ) (xs : List ℕ) → tokens_behind bad front k at xs ≡ tokens_behind bad front 0 (at + k) (drop k xs)
  behind-drop zero at xs = ap (λ n. tokens_behind bad front 0 n xs) (let e : at ≡ at + 0 = omega arith in e)
  behind-drop (suc k) at [] = refl
  behind-drop (suc k) at (c ∷ cs) = behind-drop k (at + 1) cs
      ∙ ap (λ n. tokens_behind bad front 0 n (drop k cs)) (let e : at + 1 + k ≡ at + suc k = omega arith in e)

  -- what a text that begins so has as tokens
  abbrev pub shown : ℕ → List ℕ → Front K → List (PlacedToken K)
  shown i rest (Gap more) = tokens_behind bad front 0 (i + (1 + more)) (drop (suc more) rest)
  shown i rest (Lexeme more kind) = record { kind = kind; at = i } ∷ tokens_behind bad front 0 (i + (1 + more)) (drop (suc more) rest)
  shown i rest Wrong = record { kind = bad; at = i } ∷ []

  front-step : (i c : ℕ) (cs : List ℕ) (f : Front K) → token_of bad i f (λ more. tokens_behind bad front more (i + 1) cs) ≡ shown i (c ∷ cs) f
  front-step i c cs (Gap more) = behind-drop more (i + 1) cs
      ∙ ap (λ n. tokens_behind bad front 0 n (drop more cs)) (let e : i + 1 + more ≡ i + (1 + more) = omega arith in e)
  front-step i c cs (Lexeme more kind) =
      ap (λ l. record { kind = kind; at = i } ∷ l)
      (behind-drop more (i + 1) cs ∙ ap (λ n. tokens_behind bad front 0 n (drop more cs)) (let e : i + 1 + more ≡ i + (1 + more) = omega arith in e))
  front-step i c cs Wrong = refl

  behind-front : (i : ℕ) (rest : List ℕ) → 0 < length rest → tokens_behind bad front 0 i rest ≡ shown i rest (front_at front rest)
  behind-front i [] some = absurd (omega (arith, some))
  behind-front i (c ∷ cs) some = front-step i c cs (front c cs)

  -- the tokens from a place on, where a front stands there
  pub behind-gap : (xs : List ℕ) (i more : ℕ) → i < length xs → front_at front (drop i xs) ≡ Gap more → tokens_behind bad front 0 i (drop i xs)
      ≡ tokens_behind bad front 0 (i + (1 + more)) (drop (i + (1 + more)) xs)
  behind-gap xs i more low here =
      let n = length-drop i xs in
      behind-front i (drop i xs) (omega (arith, low, n)) ∙ ap (shown i (drop i xs)) here
      ∙ ap (tokens_behind bad front 0 (i + (1 + more))) (drop-more i (suc more) xs
      ∙ ap (λ m. drop m xs) (let e : i + suc more ≡ i + (1 + more) = omega arith in e))

  pub behind-lexeme : (xs : List ℕ) (i more : ℕ) (kind : K) → i < length xs → front_at front (drop i xs) ≡ Lexeme more kind
      → tokens_behind bad front 0 i (drop i xs) ≡ record { kind = kind; at = i } ∷ tokens_behind bad front 0 (i + (1 + more)) (drop (i + (1 + more)) xs)
  behind-lexeme xs i more kind low here =
      let n = length-drop i xs in
      behind-front i (drop i xs) (omega (arith, low, n)) ∙ ap (shown i (drop i xs)) here
      ∙ ap (λ l. record { kind = kind; at = i } ∷ tokens_behind bad front 0 (i + (1 + more)) l)
      (drop-more i (suc more) xs ∙ ap (λ m. drop m xs) (let e : i + suc more ≡ i + (1 + more) = omega arith in e))

  pub behind-wrong : (xs : List ℕ) (i : ℕ) → i < length xs → front_at front (drop i xs) ≡ Wrong
      → tokens_behind bad front 0 i (drop i xs) ≡ record { kind = bad; at = i } ∷ []
  behind-wrong xs i low here = let n = length-drop i xs in behind-front i (drop i xs) (omega (arith, low, n)) ∙ ap (shown i (drop i xs)) here
