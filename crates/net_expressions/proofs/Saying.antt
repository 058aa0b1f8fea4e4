-- Inner: the tokens of a text that is put together from pieces.
use Rattle.std.proofs.Common.{◌≡◌, ℕ, ◌+◌, ◌%◌, ◌<◌, ◌≤◌, ◌^◌, ◌==◌, suc, Bool, true, false, ◌&&◌, ◌||◌, List, [], ◌∷◌, ◌++◌, length}
use Rattle.std.proofs.Common.{map, take, All, refl, sym, ap, ◌∙◌, arith, append_assoc, ⊎_elim}
use Rattle.std.specs.Prelude.{flat_map, decimal, nat_le}
use Rattle.std.specs.List.{list_all, prefix_len}
use lib.Pointwise.{bytes_decides}
use Rattle.std.proofs.lemmas.Bool.{and_parts, and_from, or_cases, eqb-true, leb-true, le-leb, or_left, or_right, both_ways, false_from_ne_true}
use Rattle.std.proofs.lemmas.Fmt.{decimal_by_steps}
use Rattle.std.proofs.lemmas.List.Folds.{list_all-append}
use Rattle.std.proofs.lemmas.List.{append-nil}
use Rattle.base_types.specs.Names.{is_letter, is_digit, is_name_byte, is_name, is_same_name}
use Rattle.net_expressions.specs.Lexemes.{PlacedToken, Front, Lexeme, begins_name, token_of, tokens_behind}

-- the kinds of a text's tokens, where it stands at some place
abbrev pub kinds_at : {K : Type 0} → K → (ℕ → List ℕ → Front K) → ℕ → List ℕ → List K
kinds_at bad front at text = map (λ t. t.kind) (tokens_behind bad front 0 at text)

-- a piece of a text has these tokens, whatever stands behind it
pub record Says {K : Type 0} (bad : K) (front : ℕ → List ℕ → Front K) (text : List ℕ) (ks : List K) : Type 0 where
  pub on : (at : ℕ) (rest : List ℕ) → (behind : ℕ) × (kinds_at bad front at (text ++ rest) ≡ ks ++ kinds_at bad front behind rest)

pub says-then : {K : Type 0} {bad : K} {front : ℕ → List ℕ → Front K} (s t : List ℕ) (ks ls : List K) → Says bad front s ks → Says bad front t ls
    → Says bad front (s ++ t) (ks ++ ls)
says-then {K} {bad} {front} s t ks ls a b = record {
  on = λ at rest.
      let first = a.on at (t ++ rest) in
      let second = b.on first.0 rest in (
        second.0,
        ap (kinds_at bad front at) (append_assoc s t rest) ∙ first.1 ∙ ap (λ l. ks ++ l) second.1
            ∙ sym (append_assoc ks ls (kinds_at bad front second.0 rest)),
      );
}

pub says-nothing : {K : Type 0} {bad : K} {front : ℕ → List ℕ → Front K} → Says bad front [] []
says-nothing = record { on = λ at rest. (at, refl) }

pub says-whole : {K : Type 0} {bad : K} {front : ℕ → List ℕ → Front K} (text : List ℕ) (ks : List K) → Says bad front text ks
    → kinds_at bad front 0 text ≡ ks
says-whole {K} {bad} {front} text ks says = let s = says.on 0 [] in ap (kinds_at bad front 0) (sym (append-nil text)) ∙ s.1 ∙ append-nil ks

pub says-lines : {K X : Type 0} {bad : K} {front : ℕ → List ℕ → Front K} (line : X → List ℕ) (ks : X → List K) (xs : List X)
    → All (λ x. Says bad front (line x) (ks x)) xs → Says bad front (flat_map line xs) (flat_map ks xs)
says-lines line ks [] all = says-nothing
says-lines line ks (x ∷ xs) all =
    says-then (line x) (flat_map line xs) (ks x) (flat_map ks xs) (all 0 x (omega arith)) (says-lines line ks xs (λ k d h. all (suc k) d (omega arith)))

-- ---- names

-- bytes that are passed over
skipped : {K : Type 0} (bad : K) (front : ℕ → List ℕ → Front K) (xs ys : List ℕ) (at : ℕ)
    → (b : ℕ) × (tokens_behind bad front (length xs) at (xs ++ ys) ≡ tokens_behind bad front 0 b ys)
skipped bad front [] ys at = (at, refl)
skipped bad front (x ∷ xs) ys at = skipped bad front xs ys (at + 1)

-- the bytes of a name, where a byte behind them is none
name-len : (xs ys : List ℕ) (c : ℕ) → list_all is_name_byte xs ≡ true → is_name_byte c ≡ false → prefix_len is_name_byte (xs ++ c ∷ ys) ≡ length xs
name-len [] ys c all stops = rw stops refl
name-len (x ∷ xs) ys c all stops =
    let parts = and_parts (is_name_byte x) (list_all is_name_byte xs) all in rw parts.0 (omega (arith, name-len xs ys c parts.1 stops))

take-front : (xs ys : List ℕ) → take (length xs) (xs ++ ys) ≡ xs
take-front [] ys = refl
take-front (x ∷ xs) ys = ap (λ l. x ∷ l) (take-front xs ys)

-- a letter or `_`, and bytes of names, which are no reserved word: the words have these kinds, and all names those
pub record IsVariable {K : Type 0} (word name_kind : List ℕ → K) (name : List ℕ) : Type 0 where
  pub head : ℕ
  pub rest : List ℕ
  pub is : name ≡ head ∷ rest
  pub begins : begins_name head ≡ true
  pub bytes : list_all is_name_byte rest ≡ true
  pub free : word (head ∷ rest) ≡ name_kind (head ∷ rest)

letter_bounds : (c : ℕ) → is_letter c ≡ true → 65 ≤ c
letter_bounds c fits = ⊎_elim
    (λ upper. leb-true 65 c (and_parts (nat_le 65 c) (nat_le c 90) upper).0)
    (λ lower. let low = leb-true 97 c (and_parts (nat_le 97 c) (nat_le c 122) lower).0 in omega arith)
    (or_cases (nat_le 65 c && nat_le c 90) (nat_le 97 c && nat_le c 122) fits)

-- a byte that begins a name is no space, no digit and no slash
pub begins_high : (c : ℕ) → begins_name c ≡ true → 65 ≤ c
begins_high c fits = ⊎_elim (letter_bounds c) (λ e. let n : c ≡ 95 = eqb-true c 95 e in omega arith) (or_cases (is_letter c) (c == 95) fits)

-- what begins with a byte that begins a name is a word
abbrev pub FrontsNames : {K : Type 0} → (ℕ → List ℕ → Front K) → (List ℕ → K) → Type 0
FrontsNames front word = (c : ℕ) (cs : List ℕ) → begins_name c ≡ true
    → front c cs ≡ Lexeme (prefix_len is_name_byte cs) (word (c ∷ take (prefix_len is_name_byte cs) cs))

module _ {K : Type 0} (bad : K) (front : ℕ → List ℕ → Front K) (word name_kind : List ℕ → K) (fronts : FrontsNames front word) where
  says-bytes : (c : ℕ) (xs : List ℕ) (d : ℕ) (ys : List ℕ) (at : ℕ) → begins_name c ≡ true → list_all is_name_byte xs ≡ true → is_name_byte d ≡ false
      → (b : ℕ) × (kinds_at bad front at ((c ∷ xs) ++ d ∷ ys) ≡ word (c ∷ xs) ∷ kinds_at bad front b (d ∷ ys))
  says-bytes c xs d ys at begins all stops =
      let n = name-len xs ys d all stops in
      let more = skipped bad front xs (d ∷ ys) (at + 1) in (
        more.0,
        ap (λ f. map (λ (t : PlacedToken K). t.kind) (token_of bad at f (λ m. tokens_behind bad front m (at + 1) (xs ++ d ∷ ys))))
            (fronts c (xs ++ d ∷ ys) begins)
            ∙ ap (λ m. word (c ∷ take m (xs ++ d ∷ ys)) ∷ map (λ (t : PlacedToken K). t.kind) (tokens_behind bad front m (at + 1) (xs ++ d ∷ ys))) n
            ∙ ap (λ l. word (c ∷ l) ∷ map (λ (t : PlacedToken K). t.kind) (tokens_behind bad front (length xs) (at + 1) (xs ++ d ∷ ys)))
            (take-front xs (d ∷ ys))
            ∙ ap (λ ts. word (c ∷ xs) ∷ map (λ (t : PlacedToken K). t.kind) ts) more.1,
      )

  -- a variable in front of a byte that no name has
  pub says-name : (name : List ℕ) (d : ℕ) (ds : List ℕ) (ks : List K) → IsVariable word name_kind name → is_name_byte d ≡ false
      → Says bad front (d ∷ ds) ks → Says bad front (name ++ d ∷ ds) (name_kind name ∷ ks)
  says-name name d ds ks is stops says = record {
    on = λ at rest.
        let here = says-bytes is.head is.rest d (ds ++ rest) at is.begins is.bytes stops in
        let more = says.on here.0 rest in
        let e : (name ++ d ∷ ds) ++ rest ≡ (is.head ∷ is.rest) ++ d ∷ (ds ++ rest) =
        append_assoc name (d ∷ ds) rest ∙ ap (λ n. n ++ d ∷ (ds ++ rest)) is.is in (
          more.0,
          ap (kinds_at bad front at) e ∙ here.1
              ∙ ap (λ k. k ∷ kinds_at bad front here.0 (d ∷ (ds ++ rest))) (is.free ∙ ap name_kind (sym is.is)) ∙ ap (λ l. name_kind name ∷ l) more.1,
        );
  }

-- ---- which names are variables

pub digits-decimal : (n : ℕ) → n < 2 ^ 64 → list_all is_digit (decimal n) ≡ true
digits-decimal n small = decimal_by_steps (λ n ds. list_all is_digit ds ≡ true)
    (λ n low. rw (le-leb 48 (48 + n) (omega arith), le-leb (48 + n) 57 (omega arith)) refl)
    (λ n ds high all. list_all-append is_digit ds ((48 + n % 10) ∷ [])
    ∙ rw (all, le-leb 48 (48 + n % 10) (omega arith), le-leb (48 + n % 10) 57 (omega arith)) refl)
    n small

weaker : (p q : ℕ → Bool) (xs : List ℕ) → ((x : ℕ) → p x ≡ true → q x ≡ true) → list_all p xs ≡ true → list_all q xs ≡ true
weaker p q [] each all = refl
weaker p q (x ∷ xs) each all =
    let parts = and_parts (p x) (list_all p xs) all in and_from (q x) (list_all q xs) (each x parts.0) (weaker p q xs each parts.1)

digit-name_byte : (c : ℕ) → is_digit c ≡ true → is_name_byte c ≡ true
digit-name_byte c fits = or_left (is_letter c || is_digit c) (c == 95) (or_right (is_letter c) (is_digit c) fits)

letter-name_byte : (c : ℕ) → is_letter c ≡ true → is_name_byte c ≡ true
letter-name_byte c fits = or_left (is_letter c || is_digit c) (c == 95) (or_left (is_letter c) (is_digit c) fits)

pub bytes-decimal : (n : ℕ) → n < 2 ^ 64 → list_all is_name_byte (decimal n) ≡ true
bytes-decimal n small = weaker is_digit is_name_byte (decimal n) digit-name_byte (digits-decimal n small)

pub bytes-name : (name : List ℕ) → is_name name ≡ true → list_all is_name_byte name ≡ true
bytes-name [] fits = refl
bytes-name (c ∷ cs) fits =
    let parts = and_parts (is_letter c) (list_all is_name_byte cs) fits in
    and_from (is_name_byte c) (list_all is_name_byte cs) (letter-name_byte c parts.0) parts.1

-- digits are no word of letters
pub no-word : (ds word : List ℕ) → list_all is_digit ds ≡ true → list_all is_digit word ≡ false → is_same_name ds word ≡ false
no-word ds word all none = false_from_ne_true (is_same_name ds word) (λ same. both_ways (list_all is_digit word) none
    (ap (list_all is_digit) (sym ((bytes_decides ds word).0 same)) ∙ all))
