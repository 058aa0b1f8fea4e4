-- The ends with a code of at most k, which stand side by side at the front of those of an instance.
use Rattle.std.proofs.Common.{◌≡◌, ℕ, ◌+◌, ◌<◌, ◌≤◌, zero, suc, Bool, true, false, ◌||◌, List, [], ◌∷◌, ◌++◌, length, take, slice_index_or, refl, sym, ap, ◌∙◌}
use Rattle.std.proofs.Common.{subst, arith, append_assoc, add-one}
use Rattle.std.specs.Prelude.{All, if◌then◌else◌}
use Rattle.std.specs.List.{prefix_len, list_any}
use Rattle.std.proofs.Math.Bool.{or-false}
use Rattle.std.proofs.lemmas.List.{append-nil, take_more}
use Rattle.std.proofs.lemmas.List.Elements.{All-nil, All-cons, All-head, All-tail, All-append, All-weaker}
use Rattle.std.proofs.lemmas.List.Folds.{list_any-append}
use Rattle.base_types.specs.Codes.{upto}
use Rattle.grc_graph.specs.Wires.{codes_below}
use Rattle.grc_graph.proofs.Exports.{codes_below-none, codes_below-suc}
use Rattle.grc_formulas.specs.WordLaws.{any_from}

-- ---- the front of a list

pub front-passes : {X : Type 0} (p : X → Bool) (xs ys : List X) → All (λ x. p x ≡ true) xs → prefix_len p (xs ++ ys) ≡ length xs + prefix_len p ys
front-passes p [] ys h = omega arith
front-passes p (x ∷ xs) ys h =
    let first = All-head (λ z. p z ≡ true) x xs h in
    let rest = front-passes p xs ys (All-tail (λ z. p z ≡ true) x xs h) in
    ap (λ b. if b then 1 + prefix_len p (xs ++ ys) else 0) first ∙ omega (arith, rest)

pub front-stops : {X : Type 0} (p : X → Bool) (xs : List X) → All (λ x. p x ≡ false) xs → prefix_len p xs ≡ 0
front-stops p [] h = refl
front-stops p (x ∷ xs) h = ap (λ b. if b then 1 + prefix_len p xs else 0) (All-head (λ z. p z ≡ false) x xs h)

-- ---- the codes of a set, below a code and from it on

abbrev pub Between : ℕ → ℕ → ℕ → Type 0
Between low high c = (low ≤ c) × (c < high)

one-if : (A : ℕ → Bool) (low n : ℕ) (b : Bool) → low ≤ n → All (Between low (suc n)) (if b then n ∷ [] else [])
one-if A low n true h = All-cons (Between low (suc n)) n [] (h, omega arith) (All-nil (Between low (suc n)))
one-if A low n false h = All-nil (Between low (suc n))

pub record CodesFrom (A : ℕ → Bool) (low high : ℕ) : Type 0 where
  pub rest : List ℕ
  pub whole : codes_below high A ≡ codes_below low A ++ rest
  pub between : All (Between low high) rest

pub codes-from : (A : ℕ → Bool) (low more high : ℕ) → high ≡ low + more → CodesFrom A low high
codes-from A low zero high e =
    let same : high ≡ low = omega arith in
    record {
      rest = [];
      whole = ap (λ n. codes_below n A) same ∙ sym (append-nil (codes_below low A));
      between = All-nil (Between low high);
    }
codes-from A low (suc more) zero e = absurd (omega arith)
codes-from A low (suc more) (suc high) e =
    let r = codes-from A low more high (omega arith) in
    let last : List ℕ = if A high then high ∷ [] else [] in
    record {
      rest = r.rest ++ last;
      whole = codes_below-suc high A ∙ ap (λ l. l ++ last) r.whole ∙ append_assoc (codes_below low A) r.rest last;
      between = All-append (Between low (suc high)) r.rest last
          (All-weaker (Between low high) (Between low (suc high)) (λ c h. (h.0, omega (arith, h.1))) r.rest r.between)
          (one-if A low high (A high) (omega arith));
    }

-- the codes below n are below n
pub codes-below : (A : ℕ → Bool) (n : ℕ) → All (λ c. c < n) (codes_below n A)
codes-below A n =
    let r = codes-from A 0 n n (omega arith) in
    let whole : codes_below n A ≡ r.rest = r.whole ∙ ap (λ l. l ++ r.rest) (codes_below-none A) in
    subst (All (λ c. c < n)) (sym whole) (All-weaker (Between 0 n) (λ c. c < n) (λ c h. h.1) r.rest r.between)

-- ---- whether some code of at most k is true of

-- where what is true is among the codes of the set
any-if : (f : ℕ → Bool) (n : ℕ) (b : Bool) → (b ≡ false → f n ≡ false) → list_any f (if b then n ∷ [] else []) ≡ f n
any-if f n true h = or-false (f n)
any-if f n false h = sym (h refl)

pub any-below : (f A : ℕ → Bool) (k : ℕ) → ((n : ℕ) → A n ≡ false → f n ≡ false) → list_any f (codes_below (suc k) A) ≡ upto f k
any-below f A zero h = ap (list_any f) (codes_below-suc 0 A ∙ ap (λ l. l ++ (if A 0 then 0 ∷ [] else [])) (codes_below-none A)) ∙ any-if f 0 (A 0) (h 0)
any-below f A (suc k) h =
    ap (list_any f) (codes_below-suc (suc k) A) ∙ list_any-append f (codes_below (suc k) A) (if A (suc k) then suc k ∷ [] else [])
    ∙ (λ t. any-below f A k h t || any-if f (suc k) (A (suc k)) (h (suc k)) t)

-- nothing is true from 64 on
pub upto-far : (f : ℕ → Bool) (k : ℕ) → ((n : ℕ) → 64 ≤ n → f n ≡ false) → upto f (63 + k) ≡ upto f 63
upto-far f zero h = refl
upto-far f (suc k) h =
    let at : 63 + suc k ≡ suc (63 + k) = omega arith in
    ap (upto f) at ∙ ap (λ b. upto f (63 + k) || b) (h (suc (63 + k)) (omega arith)) ∙ or-false (upto f (63 + k)) ∙ upto-far f k h

-- ---- values side by side

pub any-taken : (values f : ℕ → Bool) (first : ℕ) (cs : List ℕ) (count : ℕ) → count ≤ length cs
    → ((j d : ℕ) → j < length cs → values (first + j) ≡ f (slice_index_or cs j d)) → any_from values first count ≡ list_any f (take count cs)
any-taken values f first cs zero h same = refl
any-taken values f first cs (suc count) h same =
    let rest = any-taken values f first cs count (omega arith) same in
    let x = slice_index_or cs count 0 in
    let next : take (suc count) cs ≡ take count cs ++ x ∷ [] = ap (λ n. take n cs) (sym (add-one count)) ∙ take_more cs count 0 (omega arith) in
    (λ t. rest t || (same count 0 (omega arith) ∙ sym (or-false (f x))) t)
    ∙ sym (list_any-append f (take count cs) (x ∷ [])) ∙ sym (ap (list_any f) next)
