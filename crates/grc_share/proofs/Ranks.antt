-- Places of a list and of what a filter leaves of it.
use Rattle.std.proofs.Common.{◌≡◌, ℕ, zero, suc, ◌+◌, ◌<◌, ◌≤◌, Bool, true, false, cond, List, [], ◌∷◌, length, get_or, take, refl, sym, ap, ◌∙◌}
use Rattle.std.proofs.Common.{⊎_elim, arith}
use Rattle.std.specs.Prelude.{filter}
use Rattle.std.proofs.lemmas.Bool.{cases_lt}
use Rattle.std.proofs.lemmas.List.{take_all}
use Rattle.std.proofs.lemmas.List.Filters.{length-filter_more}

-- how many of the first pass
abbrev pub rank : {X : Type 0} → (X → Bool) → List X → ℕ → ℕ
rank P xs i = length (filter P (take i xs))

rank-next : {X : Type 0} (P : X → Bool) (xs : List X) (i : ℕ) → rank P xs i ≤ rank P xs (i + 1)
rank-next P [] i =
    omega (arith, ap (λ ys. length (filter P ys)) (take_all i [] (omega arith)), ap (λ ys. length (filter P ys)) (take_all (i + 1) [] (omega arith)))
rank-next P (x ∷ xs) i =
    ⊎_elim (λ l. omega (arith, length-filter_more P (x ∷ xs) i x l))
    (λ g. let a = take_all i (x ∷ xs) (omega arith) in
    let b = take_all (i + 1) (x ∷ xs) (omega arith) in
    omega (arith, ap (λ ys. length (filter P ys)) a, ap (λ ys. length (filter P ys)) b)) (cases_lt i (length (x ∷ xs)))

pub rank-rises : {X : Type 0} (P : X → Bool) (xs : List X) (i j : ℕ) → i ≤ j → rank P xs i ≤ rank P xs j
rank-rises P xs i zero le = let e : i ≡ 0 = omega arith in omega (arith, ap (rank P xs) e)
rank-rises P xs i (suc j) le =
    ⊎_elim (λ l. let e : suc j ≡ j + 1 = omega arith in omega (arith, ap (rank P xs) e, rank-rises P xs i j (omega arith), rank-next P xs j))
    (λ g. let e : i ≡ suc j = omega arith in omega (arith, ap (rank P xs) e)) (cases_lt i (suc j))

pub rank-more : {X : Type 0} (P : X → Bool) (xs : List X) (i : ℕ) (d : X) → i < length xs → P (get_or xs i d) ≡ true
    → rank P xs (i + 1) ≡ rank P xs i + 1
rank-more P xs i d l h = length-filter_more P xs i d l ∙ ap (λ b. rank P xs i + cond b 1 0) h

pub rank-same : {X : Type 0} (P : X → Bool) (xs : List X) (i : ℕ) (d : X) → i < length xs → P (get_or xs i d) ≡ false
    → rank P xs (i + 1) ≡ rank P xs i
rank-same P xs i d l h =
    length-filter_more P xs i d l ∙ ap (λ b. rank P xs i + cond b 1 0) h ∙ (let e : rank P xs i + 0 ≡ rank P xs i = omega arith in e)

-- what passes, before a later one
pub rank-below : {X : Type 0} (P : X → Bool) (xs : List X) (i j : ℕ) (d : X) → i < length xs → P (get_or xs i d) ≡ true → i < j
    → rank P xs i < rank P xs j
rank-below P xs i j d l h lt = omega (arith, rank-more P xs i d l h, rank-rises P xs (i + 1) j (omega arith))

pub rank-few : {X : Type 0} (P : X → Bool) (xs : List X) (i : ℕ) → rank P xs i ≤ i
rank-few P xs zero = omega arith
rank-few P [] (suc i) = omega (arith, ap (λ ys. length (filter P ys)) (take_all (suc i) [] (omega arith)))
rank-few P (x ∷ xs) (suc i) = by (P x) (rank-few P xs i)
  where
    by : (b : Bool) → rank P xs i ≤ i → length (cond b (x ∷ filter P (take i xs)) (filter P (take i xs))) ≤ suc i
    by true h = omega (arith, h)
    by false h = omega (arith, h)

pub rank-all : {X : Type 0} (P : X → Bool) (xs : List X) → rank P xs (length xs) ≡ length (filter P xs)
rank-all P xs = ap (λ ys. length (filter P ys)) (take_all (length xs) xs (omega arith))

pub rank-within : {X : Type 0} (P : X → Bool) (xs : List X) (i : ℕ) → rank P xs i ≤ length (filter P xs)
rank-within P xs i =
    ⊎_elim (λ l. omega (arith, rank-rises P xs i (length xs) (omega arith), rank-all P xs))
    (λ g. omega (arith, ap (λ ys. length (filter P ys)) (take_all i xs (omega arith)))) (cases_lt i (length xs))

pub rank-low : {X : Type 0} (P : X → Bool) (xs : List X) (i : ℕ) (d : X) → i < length xs → P (get_or xs i d) ≡ true
    → rank P xs i < length (filter P xs)
rank-low P xs i d l h = omega (arith, rank-below P xs i (length xs) d l h l, rank-all P xs)

-- the filter has it there
pub rank-read : {X : Type 0} (P : X → Bool) (xs : List X) (i : ℕ) (d e : X) → i < length xs → P (get_or xs i d) ≡ true
    → get_or (filter P xs) (rank P xs i) e ≡ get_or xs i d
rank-read P [] i d e l h = absurd (omega arith)
rank-read P (x ∷ xs) zero d e l h = ap (λ b. get_or (cond b (x ∷ filter P xs) (filter P xs)) 0 e) h
rank-read P (x ∷ xs) (suc i) d e l h = by (P x) (rank-read P xs i d e (omega arith) h)
  where
    by : (b : Bool) → get_or (filter P xs) (rank P xs i) e ≡ get_or xs i d
        → get_or (cond b (x ∷ filter P xs) (filter P xs)) (length (cond b (x ∷ filter P (take i xs)) (filter P (take i xs)))) e ≡ get_or xs i d
    by true r = r
    by false r = r

-- each place that the filter has is one of these
pub record Passing {X : Type 0} (P : X → Bool) (xs : List X) (k : ℕ) : Type 0 where
  pub place : ℕ
  pub low : place < length xs
  pub passes : (d : X) → P (get_or xs place d) ≡ true
  pub ranked : rank P xs place ≡ k
  pub read : (d e : X) → get_or (filter P xs) k e ≡ get_or xs place d

pub passing : {X : Type 0} (P : X → Bool) (xs : List X) (k : ℕ) → k < length (filter P xs) → Passing P xs k
passing P [] k l = absurd (omega arith)
passing P (x ∷ xs) k l = by (P x) refl k (passing P xs) l
  where
    later : (k j : ℕ) → P x ≡ true → j ≡ suc k → Passing P xs k → Passing P (x ∷ xs) j
    later k j e same h = record {
      place = suc h.place;
      low = omega (arith, h.low);
      passes = h.passes;
      ranked = ap (λ b. length (cond b (x ∷ filter P (take h.place xs)) (filter P (take h.place xs)))) e ∙ ap suc h.ranked ∙ sym same;
      read = λ d f. ap (λ b. get_or (cond b (x ∷ filter P xs) (filter P xs)) j f) e ∙ ap (λ m. get_or (x ∷ filter P xs) m f) same ∙ h.read d f;
    }

    other : (k : ℕ) → P x ≡ false → Passing P xs k → Passing P (x ∷ xs) k
    other k e h = record {
      place = suc h.place;
      low = omega (arith, h.low);
      passes = h.passes;
      ranked = ap (λ b. length (cond b (x ∷ filter P (take h.place xs)) (filter P (take h.place xs)))) e ∙ h.ranked;
      read = λ d f. ap (λ b. get_or (cond b (x ∷ filter P xs) (filter P xs)) k f) e ∙ h.read d f;
    }

    by : (b : Bool) → P x ≡ b → (k : ℕ) → ((j : ℕ) → j < length (filter P xs) → Passing P xs j) → k < length (filter P (x ∷ xs))
        → Passing P (x ∷ xs) k
    by true e zero rest l = record {
      place = 0;
      low = omega arith;
      passes = λ d. e;
      ranked = refl;
      read = λ d f. ap (λ b. get_or (cond b (x ∷ filter P xs) (filter P xs)) 0 f) e;
    }
    by true e (suc k) rest l =
        later k (suc k) e refl (rest k (omega (arith, ap (λ b. length (cond b (x ∷ filter P xs) (filter P xs))) e)))
    by false e k rest l = other k e (rest k (omega (arith, ap (λ b. length (cond b (x ∷ filter P xs) (filter P xs))) e)))
