-- Words of outputs, and the names that they are of.
use Rattle.std.proofs.Common.{◌≡◌, ℕ, ◌+◌, ◌-◌, ◌≤◌, zero, suc, Bool, true, false, not, ◌&&◌, ◌||◌, List, [], ◌∷◌, ◌++◌, length, map, take, drop, get_or}
use Rattle.std.proofs.Common.{refl, sym, ap, ◌∙◌, subst, arith, None, All, IsTrue, inl, inr, ◌⊎◌, cond, Option, Some, Bor, MatchOption}
use Rattle.std.specs.Prelude.{if◌then◌else◌, codes, nat_lt}
use Rattle.std.specs.List.{list_all, position_or_len}
use Rattle.std.specs.Cmp.Lexicographic.{nat_list_eq_equiv}
use Rattle.std.proofs.Math.Seq.{drop-append_seam}
use Rattle.std.proofs.lemmas.Bool.{and_parts, and_from, not-true, not_from_false, false≢true, cases_lt}
use Rattle.std.proofs.lemmas.List.{append_cancel_right, take-append-drop, take_more, take_all, length-append}
use Rattle.base_facts.proofs.Tests.{and-false}
use Rattle.base_types.specs.Names.{is_name, is_name_byte, is_letter, is_same_name}
use Rattle.base_types.specs.Distinct.{all_differ}
use Rattle.base_types.proofs.Exports.{same_name-is, same_name-self}
use Rattle.net_ir.specs.NameLists.{is_among, first_again}
use Rattle.net_ir.proofs.Exports.{all_differ-push, found-low, found-at, new-at, any-none}
use Rattle.blif_text.specs.OutputNames.{output_word}
use Rattle.blif_net.specs.Interfaces.{HasName}

abbrev mark : List ℕ
mark = codes ".out"

-- no name has a dot
no-dot : (front behind : List ℕ) → list_all is_name_byte (front ++ 46 ∷ behind) ≡ false
no-dot [] behind = refl
no-dot (c ∷ front) behind = rw (no-dot front behind) (and-false (is_name_byte c))

marked-other : (name : List ℕ) → is_name (name ++ mark) ≡ false
marked-other [] = refl
marked-other (c ∷ name) = rw (no-dot name (codes "out")) (and-false (is_letter c))

fits-among : (inputs : List (List ℕ)) (name : List ℕ) → All (λ n. IsTrue (is_name n)) inputs → is_among name inputs ≡ true → IsTrue (is_name name)
fits-among inputs name fit among =
    subst (λ n. IsTrue (is_name n)) (found-at name inputs among) (fit (position_or_len (is_same_name name) inputs) [] (found-low name inputs among))

-- the word of an output, by whether its name is an input's
record IsMarked (inputs : List (List ℕ)) (name word : List ℕ) : Type 0 where
  among : is_among name inputs ≡ true
  is : word ≡ name ++ mark

record IsPlain (inputs : List (List ℕ)) (name word : List ℕ) : Type 0 where
  other : is_among name inputs ≡ false
  is : word ≡ name

word-cases : (inputs : List (List ℕ)) (name word : List ℕ) → output_word inputs name ≡ word → IsMarked inputs name word ⊎ IsPlain inputs name word
word-cases inputs name word is =
    elim (is_among name inputs) as
    (λ b. is_among name inputs ≡ b → (if b then name ++ mark else name) ≡ word → IsMarked inputs name word ⊎ IsPlain inputs name word)
    [ true ↦ λ e w. inl (record { among = e; is = sym w }) | false ↦ λ e w. inr (record { other = e; is = sym w }) ] refl is

marked-word : (inputs : List (List ℕ)) (name : List ℕ) → is_among name inputs ≡ true → output_word inputs name ≡ name ++ mark
marked-word inputs name among = rw among refl

plain-word : (inputs : List (List ℕ)) (name : List ℕ) → is_among name inputs ≡ false → output_word inputs name ≡ name
plain-word inputs name other = rw other refl

pub marked-named : (inputs : List (List ℕ)) (name word : List ℕ) → All (λ n. IsTrue (is_name n)) inputs → is_among name inputs ≡ true → word ≡ name ++ mark
    → HasName inputs word
marked-named inputs name word fit among is = (name, fits-among inputs name fit among, marked-word inputs name among ∙ sym is)

pub marked-nameless : (inputs : List (List ℕ)) (name word : List ℕ) → is_among name inputs ≡ false → word ≡ name ++ mark → HasName inputs word → ⊥
marked-nameless inputs name word other is has =
    elim (word-cases inputs has.0 word has.2) [
      | inl m ↦
          let same : has.0 ≡ name = append_cancel_right has.0 name mark (sym m.is ∙ is) in
          false≢true (sym other ∙ ap (λ n. is_among n inputs) (sym same) ∙ m.among)
      | inr p ↦ false≢true (sym (marked-other name) ∙ ap is_name (sym is ∙ p.is) ∙ has.1)
    ]

pub plain-named : (inputs : List (List ℕ)) (word : List ℕ) → is_name word ≡ true → is_among word inputs ≡ false → HasName inputs word
plain-named inputs word fits other = (word, fits, plain-word inputs word other)

pub plain-nameless : (inputs : List (List ℕ)) (word : List ℕ) → ((name : List ℕ) → word ≡ name ++ mark → ⊥)
    → (is_name word && not (is_among word inputs)) ≡ false → HasName inputs word → ⊥
plain-nameless inputs word plain lacks has =
    elim (word-cases inputs has.0 word has.2) [
      | inl m ↦ plain has.0 m.is
      | inr p ↦
          let fits : is_name word ≡ true = ap is_name p.is ∙ has.1 in
          let other : is_among word inputs ≡ false = ap (λ n. is_among n inputs) p.is ∙ p.other in
          false≢true (sym lacks ∙ and_from (is_name word) (not (is_among word inputs)) fits (not_from_false (is_among word inputs) other))
    ]

-- the name that a word is of
pub record IsNameOf (inputs : List (List ℕ)) (word name : List ℕ) : Type 0 where
  pub fits : IsTrue (is_name name)
  pub word_is : output_word inputs name ≡ word

pub marked-name : (inputs : List (List ℕ)) (name word : List ℕ) → HasName inputs word → word ≡ name ++ mark → IsNameOf inputs word name
marked-name inputs name word has is =
    elim (word-cases inputs has.0 word has.2) [
      | inl m ↦
          let same : has.0 ≡ name = append_cancel_right has.0 name mark (sym m.is ∙ is) in
          subst (IsNameOf inputs word) same (record { fits = has.1; word_is = has.2 })
      | inr p ↦ absurd (false≢true (sym (marked-other name) ∙ ap is_name (sym is ∙ p.is) ∙ has.1))
    ]

pub plain-name : (inputs : List (List ℕ)) (word : List ℕ) → HasName inputs word → ((name : List ℕ) → word ≡ name ++ mark → ⊥) → IsNameOf inputs word word
plain-name inputs word has plain =
    elim (word-cases inputs has.0 word has.2) [
      | inl m ↦ absurd (plain has.0 m.is)
      | inr p ↦ subst (IsNameOf inputs word) (sym p.is) (record { fits = has.1; word_is = has.2 })
    ]

-- ---- a suffix

pub suffix-found : (word name : List ℕ) → is_same_name (drop (length word - 4) word) mark ≡ true → name ≡ take (length word - 4) word → word ≡ name ++ mark
suffix-found word name ends is =
    sym (take-append-drop (length word - 4) word) ∙ ap (λ l. l ++ drop (length word - 4) word) (sym is)
    ∙ ap (λ l. name ++ l) (same_name-is (drop (length word - 4) word) mark ends)

pub suffix-lacks : (word name : List ℕ) → is_same_name (drop (length word - 4) word) mark ≡ false → word ≡ name ++ mark → ⊥
suffix-lacks word name lacks is =
    let count : length word - 4 ≡ length name = omega (arith, ap length is, length-append name mark) in
    let ends : drop (length word - 4) word ≡ mark = ap (λ n. drop n word) count ∙ ap (drop (length name)) is ∙ drop-append_seam name mark in
    false≢true (sym lacks ∙ ap (λ l. is_same_name l mark) ends ∙ same_name-self mark)

-- ---- whether a name is an input's, by its slot

lt-none : (m : ℕ) → nat_lt m 0 ≡ false
lt-none m = grind arith

lt-first : (n : ℕ) → nat_lt 0 (suc n) ≡ true
lt-first n = grind arith

lt-suc : (m n : ℕ) → nat_lt (1 + m) (suc n) ≡ nat_lt m n
lt-suc m n =
    elim (cases_lt m n) [
      | inl low ↦
          let a : nat_lt (1 + m) (suc n) ≡ true = grind arith in
          let b : nat_lt m n ≡ true = grind arith in
          a ∙ sym b
      | inr high ↦
          let a : nat_lt (1 + m) (suc n) ≡ false = grind arith in
          let b : nat_lt m n ≡ false = grind arith in
          a ∙ sym b
    ]

among-front : (name : List ℕ) (front behind : List (List ℕ))
    → is_among name front ≡ nat_lt (position_or_len (is_same_name name) (front ++ behind)) (length front)
among-front name [] behind = sym (lt-none (position_or_len (is_same_name name) behind))
among-front name (x ∷ front) behind =
    elim (is_same_name name x) as
    (λ b. (b || is_among name front) ≡ nat_lt (cond (not b) (1 + position_or_len (is_same_name name) (front ++ behind)) 0) (length (x ∷ front))) [
      | true ↦ sym (lt-first (length front))
      | false ↦ among-front name front behind ∙ sym (lt-suc (position_or_len (is_same_name name) (front ++ behind)) (length front))
    ]

pub among-slot : (name : List ℕ) (inputs others keys : List (List ℕ)) → keys ≡ inputs ++ others
    → nat_lt (position_or_len (is_same_name name) keys) (length inputs) ≡ is_among name inputs
among-slot name inputs others keys is =
    ap (λ l. nat_lt (position_or_len (is_same_name name) l) (length inputs)) is ∙ sym (among-front name inputs others)

-- ---- names that differ

differ-take : (names : List (List ℕ)) → first_again [] names ≡ None → (i : ℕ) → i ≤ length names → all_differ is_same_name (take i names) ≡ true
differ-take names once zero low = refl
differ-take names once (suc i) low =
    let on : suc i ≡ i + 1 = omega arith in
    let x = get_or names i [] in
    let new : is_among x (take i names) ≡ false = new-at names once i (omega (arith, low)) in
    ap (λ n. all_differ is_same_name (take n names)) on
    ∙ ap (all_differ is_same_name) (take_more names i [] (omega (arith, low)))
    ∙ all_differ-push is_same_name (take i names) x (differ-take names once i (omega (arith, low)))
    (λ k d h. nat_list_eq_equiv.symm (get_or (take i names) k d) x ∙ any-none (is_same_name x) (take i names) new k d h)

once-all : (names : List (List ℕ)) → first_again [] names ≡ None → all_differ is_same_name names ≡ true
once-all names once =
    ap (all_differ is_same_name) (sym (take_all (length names) names (omega arith))) ∙ differ-take names once (length names) (omega arith)

among-map : (f : List ℕ → List ℕ) (x : List ℕ) (xs : List (List ℕ)) → is_among x xs ≡ true → is_among (f x) (map f xs) ≡ true
among-map f x [] among = absurd (false≢true among)
among-map f x (y ∷ xs) among =
    elim (is_same_name x y) as (λ b. is_same_name x y ≡ b → (b || is_among x xs) ≡ true → (is_same_name (f x) (f y) || is_among (f x) (map f xs)) ≡ true) [
      | true ↦ λ e h. ap (λ b. b || is_among (f x) (map f xs)) (ap (λ z. is_same_name (f x) (f z)) (sym (same_name-is x y e)) ∙ same_name-self (f x))
      | false ↦ λ e h. rw (among-map f x xs h) (or_true (is_same_name (f x) (f y)))
    ] refl among
  where
    or_true : (b : Bool) → (b || true) ≡ true
    or_true true = refl
    or_true false = refl

map-differ : (f : List ℕ → List ℕ) (xs : List (List ℕ)) → all_differ is_same_name (map f xs) ≡ true → all_differ is_same_name xs ≡ true
map-differ f [] differ = refl
map-differ f (x ∷ xs) differ =
    let parts = and_parts (not (is_among (f x) (map f xs))) (all_differ is_same_name (map f xs)) differ in
    let apart : is_among x xs ≡ false =
    elim (is_among x xs) as (λ b. is_among x xs ≡ b → b ≡ false)
    [ true ↦ λ e. absurd (false≢true (sym (not-true (is_among (f x) (map f xs)) parts.0) ∙ among-map f x xs e)) | false ↦ λ e. refl ] refl in
    and_from (not (is_among x xs)) (all_differ is_same_name xs) (not_from_false (is_among x xs) apart) (map-differ f xs parts.1)

-- names whose words differ
pub names-differ : (inputs names words : List (List ℕ)) → map (output_word inputs) names ≡ words → first_again [] words ≡ None
    → all_differ is_same_name names ≡ true
names-differ inputs names words are once =
    map-differ (output_word inputs) names (ap (all_differ is_same_name) are ∙ once-all words once)

-- ---- a suffix, as the library answers it

pub unmarked-answer : (r : Option (Bor (List ℕ))) (word : List ℕ)
    → MatchOption r (is_same_name (drop (length word - 4) word) mark ≡ false)
    (λ x. (is_same_name (drop (length word - 4) word) mark ≡ true) × (x.now ≡ take (length word - 4) word) × (length x.now + 4 ≡ length word))
    → MatchOption r ((name : List ℕ) → word ≡ name ++ mark → ⊥) (λ x. word ≡ x.now ++ mark)
unmarked-answer None word cases = λ name is. suffix-lacks word name cases is
unmarked-answer (Some x) word cases = suffix-found word x.now cases.0 cases.1
