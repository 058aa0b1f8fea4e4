-- Names of which none stands a second time, and what names are among which.
use Rattle.std.proofs.Common.{◌≡◌, ℕ, zero, suc, Bool, true, false, not, ◌&&◌, List, [], ◌∷◌, ◌++◌, map, take, drop, refl, sym, ap, ap₂, ◌∙◌, arith}
use Rattle.std.proofs.Common.{Contains, Option, Some, None, ◌⊎◌, inl, inr}
use Rattle.std.specs.Prelude.{filter, if◌then◌else◌}
use Rattle.std.specs.List.{AllByRecursion, position_or_len}
use Rattle.std.proofs.lemmas.Bool.{and_from, and_left, and_parts, both_ways, false_from_ne_true, not-true, not_from_false, or_from, or_left, or_parts, or_right}
use Rattle.std.proofs.lemmas.List.{get_or_default, take-append-drop}
use Rattle.std.proofs.lemmas.List.Elements.{All-contains, All-from_recursion}
use Rattle.std.proofs.lemmas.List.Folds.{list_any_at}
use Rattle.base_facts.proofs.Lists.{contains-later}
use Rattle.base_types.specs.Distinct.{all_differ, none_shared}
use Rattle.base_types.specs.Names.{is_same_name}
use Rattle.base_types.proofs.Exports.{same_name-is, same_name-self}
use Rattle.net_ir.specs.NameLists.{is_among, first_again}
use Rattle.net_ir.proofs.Exports.{all_differ-append, found-low, found-at, is_among-filter}

-- ---- elements

pub first-or_later : {X : Type 0} (y x : X) (xs : List X) → Contains (y ∷ xs) x → (y ≡ x) ⊎ Contains xs x
first-or_later y x xs (zero, h, is) = inl is
first-or_later y x xs (suc k, h, is) = inr (k, omega (arith, h), is)

pub each-element : {X : Type 0} (P : X → Type 0) (xs : List X) → ((x : X) → Contains xs x → P x) → AllByRecursion P xs
each-element P [] each = tt
each-element P (x ∷ xs) each = (each x (0, omega arith, refl), each-element P xs (λ y has. each y (contains-later x y xs has)))

pub of-element : {X : Type 0} (P : X → Type 0) (xs : List X) → AllByRecursion P xs → (x : X) → Contains xs x → P x
of-element P xs all x has = All-contains P xs x (All-from_recursion P xs all) has

pub among-element : (x : List ℕ) (xs : List (List ℕ)) → Contains xs x → is_among x xs ≡ true
among-element x xs has = list_any_at (is_same_name x) xs has.0 x has.1 (ap (is_same_name x) has.2 ∙ same_name-self x)

pub element-among : (x : List ℕ) (xs : List (List ℕ)) → is_among x xs ≡ true → Contains xs x
element-among x xs among =
    let k = position_or_len (is_same_name x) xs in
    let low = found-low x xs among in
    (k, low, get_or_default xs k x [] low ∙ found-at x xs among)

-- ---- names that differ

pub none_shared-from : (xs ys : List (List ℕ)) → ((x : List ℕ) → Contains xs x → is_among x ys ≡ false) → none_shared is_same_name xs ys ≡ true
none_shared-from [] ys apart = refl
none_shared-from (x ∷ xs) ys apart =
    and_from (not (is_among x ys)) (none_shared is_same_name xs ys) (not_from_false (is_among x ys) (apart x (0, omega arith, refl)))
    (none_shared-from xs ys (λ y has. apart y (contains-later x y xs has)))

pub differ-both : (xs ys : List (List ℕ)) → all_differ is_same_name xs ≡ true → all_differ is_same_name ys ≡ true
    → ((x : List ℕ) → Contains xs x → is_among x ys ≡ false) → all_differ is_same_name (xs ++ ys) ≡ true
differ-both xs ys first second apart = all_differ-append is_same_name xs ys ∙ rw (first, second, none_shared-from xs ys apart) refl

-- the parts of a list whose names differ
pub record DifferInParts (xs ys : List (List ℕ)) : Type 0 where
  pub first : all_differ is_same_name xs ≡ true
  pub second : all_differ is_same_name ys ≡ true

pub in-parts : (xs ys : List (List ℕ)) → all_differ is_same_name (xs ++ ys) ≡ true → DifferInParts xs ys
in-parts xs ys differ =
    let all = sym (all_differ-append is_same_name xs ys) ∙ differ in
    let both = and_parts (all_differ is_same_name xs && none_shared is_same_name xs ys) (all_differ is_same_name ys) all in
    record { first = (and_parts (all_differ is_same_name xs) (none_shared is_same_name xs ys) both.0).0; second = both.1 }

pub differ-filter : (p : List ℕ → Bool) (xs : List (List ℕ)) → all_differ is_same_name xs ≡ true → all_differ is_same_name (filter p xs) ≡ true
differ-filter p [] differ = refl
differ-filter p (x ∷ xs) differ = go (differ-filter p xs parts.1) (p x) refl
  where
    parts : (not (is_among x xs) ≡ true) × (all_differ is_same_name xs ≡ true)
    parts = and_parts (not (is_among x xs)) (all_differ is_same_name xs) differ

    none : is_among x (filter p xs) ≡ false
    none = is_among-filter p x xs ∙ and_left (is_among x xs) (p x) (not-true (is_among x xs) parts.0)

    go : all_differ is_same_name (filter p xs) ≡ true → (b : Bool) → p x ≡ b → all_differ is_same_name (filter p (x ∷ xs)) ≡ true
    go rest true s =
        rw s (and_from (not (is_among x (filter p xs))) (all_differ is_same_name (filter p xs)) (not_from_false (is_among x (filter p xs)) none) rest)
    go rest false s = rw s rest

-- names none of which stands among others before or a second time
pub record Once (before names : List (List ℕ)) : Type 0 where
  pub differ : all_differ is_same_name names ≡ true
  pub apart : (x : List ℕ) → is_among x before ≡ true → is_among x names ≡ false

if-none : {X : Type 0} (b : Bool) (x : X) (other : Option X) → (if b then Some x else other) ≡ None → (b ≡ false) × (other ≡ None)
if-none true x other e = cc
if-none false x other e = (refl, e)

pub once-of : (before names : List (List ℕ)) → first_again before names ≡ None → Once before names
once-of before [] none = record { differ = refl; apart = λ x h. refl }
once-of before (name ∷ names) none =
    let new = if-none (is_among name before) name (first_again (name ∷ before) names) none in
    let rest = once-of (name ∷ before) names new.1 in
    let here : is_among name names ≡ false = rest.apart name (or_left (is_same_name name name) (is_among name before) (same_name-self name)) in
    record {
      differ = and_from (not (is_among name names)) (all_differ is_same_name names) (not_from_false (is_among name names) here) rest.differ;
      apart = λ x h. or_from (is_same_name x name) (is_among x names)
          (false_from_ne_true (is_same_name x name)
          (λ s. both_ways (is_among name before) new.0 (ap (λ y. is_among y before) (sym (same_name-is x name s)) ∙ h)))
          (rest.apart x (or_right (is_same_name x name) (is_among x before) h));
    }

-- ---- names with one sign of two bytes

-- two that differ do so behind it
behind-differs : (x z sign : List ℕ) → is_same_name (take 2 x) sign ≡ true → is_same_name (take 2 z) sign ≡ true → is_same_name x z ≡ false
    → is_same_name (drop 2 x) (drop 2 z) ≡ false
behind-differs x z sign a b other = false_from_ne_true (is_same_name (drop 2 x) (drop 2 z)) (λ same.
    let front = same_name-is (take 2 x) sign a ∙ sym (same_name-is (take 2 z) sign b) in
    let behind = same_name-is (drop 2 x) (drop 2 z) same in
    let equal : x ≡ z = sym (take-append-drop 2 x) ∙ ap₂ (λ f g. f ++ g) front behind ∙ take-append-drop 2 z in
    both_ways (is_same_name x z) other (ap (is_same_name x) (sym equal) ∙ same_name-self x))

behind-apart : (x sign : List ℕ) (zs : List (List ℕ)) → is_same_name (take 2 x) sign ≡ true
    → AllByRecursion (λ z. is_same_name (take 2 z) sign ≡ true) zs → is_among x zs ≡ false → is_among (drop 2 x) (map (drop 2) zs) ≡ false
behind-apart x sign [] a all none = refl
behind-apart x sign (z ∷ zs) a all none =
    or_from (is_same_name (drop 2 x) (drop 2 z)) (is_among (drop 2 x) (map (drop 2) zs))
    (behind-differs x z sign a all.0 (or_parts (is_same_name x z) (is_among x zs) none).0)
    (behind-apart x sign zs a all.1 (or_parts (is_same_name x z) (is_among x zs) none).1)

pub differ-behind : (sign : List ℕ) (xs : List (List ℕ)) → AllByRecursion (λ x. is_same_name (take 2 x) sign ≡ true) xs
    → all_differ is_same_name xs ≡ true → all_differ is_same_name (map (drop 2) xs) ≡ true
differ-behind sign [] all differ = refl
differ-behind sign (x ∷ xs) all differ =
    let parts = and_parts (not (is_among x xs)) (all_differ is_same_name xs) differ in
    let none = behind-apart x sign xs all.0 all.1 (not-true (is_among x xs) parts.0) in
    and_from (not (is_among (drop 2 x) (map (drop 2) xs))) (all_differ is_same_name (map (drop 2) xs))
    (not_from_false (is_among (drop 2 x) (map (drop 2) xs)) none) (differ-behind sign xs all.1 parts.1)
