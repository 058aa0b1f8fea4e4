-- Names among others, names that stand a second time, and the places of names.
use Rattle.std.proofs.Common.{◌≡◌, ℕ, ◌+◌, ◌<◌, ◌≤◌, zero, suc, Bool, true, false, not, cond, ◌||◌, ◌&&◌, List, [], ◌∷◌, ◌++◌, length, map, get_or, take, drop}
use Rattle.std.proofs.Common.{refl, sym, ap, ◌∙◌, arith, Some, None, inl, inr, nat_lt}
use Rattle.std.specs.Prelude.{filter, find, position, unwrap_or, if◌then◌else◌}
use Rattle.std.specs.List.{list_any, position_or_len, prefix_len}
use Rattle.std.specs.Cmp.Lexicographic.{nat_list_eq_equiv}
use Rattle.std.proofs.lemmas.Bool.{and_parts, or_parts, not-true, false≢true, cases_lt}
use Rattle.std.proofs.lemmas.List.{drop_more, take_more, length-map, get_or-map, map-append}
use Rattle.std.proofs.lemmas.List.Folds.{list_any_at, list_any_more}
use Rattle.std.proofs.lemmas.List.Sums.{prefix_len-le-length, passes_at_first}
use Rattle.std.proofs.lemmas.Map.Made.{is_member-filter}
use Rattle.base_types.specs.Names.{is_same_name}
use Rattle.base_types.specs.Distinct.{all_differ, none_shared}
use Rattle.base_types.proofs.Exports.{same_name-is}
use Rattle.net_ir.specs.NameLists.{is_among, first_again}

-- ---- names among others

or_last : (a b : Bool) → (a || b) ≡ cond b true a
or_last true true = refl
or_last true false = refl
or_last false true = refl
or_last false false = refl

or_first : (a b : Bool) → (a || b) ≡ cond a true b
or_first true b = refl
or_first false b = refl

-- one more name of a list
pub is_among-more : (name : List ℕ) (names : List (List ℕ)) (i : ℕ) (d : List ℕ) → i < length names
    → is_among name (take (i + 1) names) ≡ cond (is_same_name (get_or names i d) name) true (is_among name (take i names))
is_among-more name names i d low =
    list_any_more (is_same_name name) names i d low ∙ or_last (is_among name (take i names)) (is_same_name name (get_or names i d))
    ∙ ap (λ b. cond b true (is_among name (take i names))) (nat_list_eq_equiv.symm name (get_or names i d))

-- one of those that pass a test
pub is_among-filter : (p : List ℕ → Bool) (name : List ℕ) (names : List (List ℕ)) → is_among name (filter p names) ≡ (is_among name names && p name)
is_among-filter p name names = is_member-filter nat_list_eq_equiv p name (λ other same. ap p (same_name-is name other same)) names

pub any-none : {X : Type 0} (p : X → Bool) (xs : List X) → list_any p xs ≡ false → (k : ℕ) (d : X) → k < length xs → p (get_or xs k d) ≡ false
any-none p [] none k d h = absurd (omega arith)
any-none p (x ∷ xs) none zero d h = (or_parts (p x) (list_any p xs) none).0
any-none p (x ∷ xs) none (suc k) d h = any-none p xs (or_parts (p x) (list_any p xs) none).1 k d (omega arith)

-- names at different places
pub differ-at : (names : List (List ℕ)) → all_differ is_same_name names ≡ true → (j k : ℕ) → j < k → k < length names
    → is_same_name (get_or names j []) (get_or names k []) ≡ false
differ-at [] differ j k a b = absurd (omega arith)
differ-at (x ∷ xs) differ j zero a b = absurd (omega arith)
differ-at (x ∷ xs) differ zero (suc k) a b =
    let parts = and_parts (not (is_among x xs)) (all_differ is_same_name xs) differ in
    any-none (is_same_name x) xs (not-true (is_among x xs) parts.0) k [] (omega arith)
differ-at (x ∷ xs) differ (suc j) (suc k) a b =
    differ-at xs (and_parts (not (is_among x xs)) (all_differ is_same_name xs) differ).1 j k (omega arith) (omega arith)

-- tests that agree find the same
pub find-same : {X : Type 0} (p q : X → Bool) (xs : List X) → ((x : X) → p x ≡ q x) → find p xs ≡ find q xs
find-same p q [] same = refl
find-same p q (x ∷ xs) same = ap (λ b. cond b (Some x) (find p xs)) (same x) ∙ ap (λ o. cond (q x) (Some x) o) (find-same p q xs same)

-- ---- names that stand a second time

abbrev pub SameNames : List (List ℕ) → List (List ℕ) → Type 0
SameNames xs ys = (name : List ℕ) → is_among name xs ≡ is_among name ys

-- what is found again depends on which names stand before, not on their order
first_again-same : (before other names : List (List ℕ)) → SameNames before other → first_again before names ≡ first_again other names
first_again-same before other [] same = refl
first_again-same before other (name ∷ names) same =
    let more = first_again-same (name ∷ before) (name ∷ other) names (λ n. ap (λ b. is_same_name n name || b) (same n)) in
    ap (λ b. if b then Some name else first_again (name ∷ before) names) (same name)
    ∙ ap (λ o. if is_among name other then Some name else o) more

-- a name that is none of those before it
first_again-step : (names : List (List ℕ)) (i : ℕ) (d : List ℕ) → i < length names → is_among (get_or names i d) (take i names) ≡ false
    → first_again (take i names) (drop i names) ≡ first_again (take (i + 1) names) (drop (i + 1) names)
first_again-step names i d low new =
    let name = get_or names i d in
    let same : SameNames (name ∷ take i names) (take (i + 1) names) = λ other.
    or_first (is_same_name other name) (is_among other (take i names))
    ∙ sym (list_any_more (is_same_name other) names i d low ∙ or_last (is_among other (take i names)) (is_same_name other name)) in
    ap (first_again (take i names)) (drop_more names i d low) ∙ rw new refl
    ∙ first_again-same (name ∷ take i names) (take (i + 1) names) (drop (i + 1) names) same

-- a name that is one of those before it
first_again-found : (names : List (List ℕ)) (i : ℕ) (d : List ℕ) → i < length names → is_among (get_or names i d) (take i names) ≡ true
    → first_again (take i names) (drop i names) ≡ Some (get_or names i d)
first_again-found names i d low old =
    ap (first_again (take i names)) (drop_more names i d low) ∙ rw old refl

-- where none stands twice, none is among those before it
none-from : (names : List (List ℕ)) → first_again [] names ≡ None → (i : ℕ) → i ≤ length names → first_again (take i names) (drop i names) ≡ None
none-from names once zero low = once
none-from names once (suc i) low =
    let n : i + 1 ≡ suc i = omega arith in
    let inside : i < length names = omega (arith, low) in
    let before = none-from names once i (omega (arith, low)) in
    ap (λ m. first_again (take m names) (drop m names)) (sym n)
    ∙ elim (is_among (get_or names i []) (take i names)) as
    (λ b. is_among (get_or names i []) (take i names) ≡ b → first_again (take (i + 1) names) (drop (i + 1) names) ≡ None)
    [ true ↦ λ e. let s = sym (first_again-found names i [] inside e) ∙ before in cc | false ↦ λ e. sym (first_again-step names i [] inside e) ∙ before ] refl

pub none_shared-nil : (names : List (List ℕ)) → none_shared is_same_name names [] ≡ true
none_shared-nil [] = refl
none_shared-nil (name ∷ names) = none_shared-nil names

pub none_shared-front : (xs before : List (List ℕ)) (x : List ℕ) → list_any (is_same_name x) xs ≡ false → none_shared is_same_name xs before ≡ true
    → none_shared is_same_name xs (x ∷ before) ≡ true
none_shared-front [] before x apart none = refl
none_shared-front (y ∷ xs) before x apart none =
    let others = or_parts (is_same_name x y) (list_any (is_same_name x) xs) apart in
    let parts = and_parts (not (is_among y before)) (none_shared is_same_name xs before) none in
    rw (nat_list_eq_equiv.symm y x, others.0, parts.0) (none_shared-front xs before x others.1 parts.1)

first_again-none : (before names : List (List ℕ)) → none_shared is_same_name names before ≡ true → all_differ is_same_name names ≡ true
    → first_again before names ≡ None
first_again-none before [] none differ = refl
first_again-none before (name ∷ names) none differ =
    let apart = and_parts (not (is_among name before)) (none_shared is_same_name names before) none in
    let parts = and_parts (not (is_among name names)) (all_differ is_same_name names) differ in
    rw (not-true (is_among name before) apart.0) (first_again-none (name ∷ before) names
    (none_shared-front names before name (not-true (is_among name names) parts.0) apart.1) parts.1)

-- of names that all differ none stands twice
pub once-differ : (names : List (List ℕ)) → all_differ is_same_name names ≡ true → first_again [] names ≡ None
once-differ names differ = first_again-none [] names (none_shared-nil names) differ

pub new-at : (names : List (List ℕ)) → first_again [] names ≡ None → (i : ℕ) → i < length names → is_among (get_or names i []) (take i names) ≡ false
new-at names once i low =
    elim (is_among (get_or names i []) (take i names)) as (λ b. is_among (get_or names i []) (take i names) ≡ b → b ≡ false)
    [ true ↦ λ e. let s = sym (first_again-found names i [] low e) ∙ none-from names once i (omega (arith, low)) in cc | false ↦ λ e. refl ] refl

-- ---- a loop that puts the names of some elements into a set

module _ {X : Type 0} (f : X → List ℕ) (xs : List X) (i : ℕ) (d : X) (low : i < length xs) where
  abbrev named : List (List ℕ)
  named = map f xs

  named-low : i < length named
  named-low = omega (arith, low, length-map xs f)

  named-here : get_or named i [] ≡ f (get_or xs i d)
  named-here = get_or-map f xs i d [] low

  -- whether a name is in the set, before and after the next one is put in
  pub members-next : (name : List ℕ) (old new : Bool) → old ≡ is_among name (take i named) → new ≡ cond (is_same_name (f (get_or xs i d)) name) true old
      → new ≡ is_among name (take (i + 1) named)
  members-next name old new before grown =
      grown ∙ ap (λ b. cond (is_same_name (f (get_or xs i d)) name) true b) before
      ∙ ap (λ n. cond (is_same_name n name) true (is_among name (take i named))) (sym named-here) ∙ sym (is_among-more name named i [] named-low)

  -- the set did not have the name
  pub once-next : is_among (f (get_or xs i d)) (take i named) ≡ false
      → first_again (take i named) (drop i named) ≡ first_again (take (i + 1) named) (drop (i + 1) named)
  once-next new = first_again-step named i [] named-low (ap (λ n. is_among n (take i named)) named-here ∙ new)

  -- the set had it
  pub again-here : is_among (f (get_or xs i d)) (take i named) ≡ true → first_again (take i named) (drop i named) ≡ Some (f (get_or xs i d))
  again-here old = first_again-found named i [] named-low (ap (λ n. is_among n (take i named)) named-here ∙ old) ∙ ap Some named-here

-- ---- the places of names

-- a name that is among some stands at its place
pub found-low : (x : List ℕ) (xs : List (List ℕ)) → is_among x xs ≡ true → position_or_len (is_same_name x) xs < length xs
found-low x [] among = absurd (false≢true among)
found-low x (y ∷ xs) among =
    elim (is_same_name x y) as (λ b. (b || is_among x xs) ≡ true → (cond (not b) (1 + position_or_len (is_same_name x) xs) 0) < length (y ∷ xs))
    [ true ↦ λ e. omega arith | false ↦ λ e. omega (arith, found-low x xs e) ] among

pub place-among : (x : List ℕ) (xs : List (List ℕ)) → position_or_len (is_same_name x) xs < length xs → is_among x xs ≡ true
place-among x xs low =
    list_any_at (is_same_name x) xs (position_or_len (is_same_name x) xs) [] low (passes_at_first (is_same_name x) xs [] low)

pub found-at : (x : List ℕ) (xs : List (List ℕ)) → is_among x xs ≡ true → get_or xs (position_or_len (is_same_name x) xs) [] ≡ x
found-at x xs among =
    sym (same_name-is x (get_or xs (position_or_len (is_same_name x) xs) []) (passes_at_first (is_same_name x) xs [] (found-low x xs among)))

-- ---- what a set of names says of the list of its names

prefix_len-map : {X Y : Type 0} (f : X → Y) (p : Y → Bool) (xs : List X) → prefix_len p (map f xs) ≡ prefix_len (λ x. p (f x)) xs
prefix_len-map f p [] = refl
prefix_len-map f p (x ∷ xs) = ap (λ n. cond (p (f x)) (1 + n) 0) (prefix_len-map f p xs)

pub position-some : {X Y : Type 0} (f : X → Y) (p : Y → Bool) (xs : List X) (i : ℕ) → position (λ x. p (f x)) xs ≡ Some i → position_or_len p (map f xs) ≡ i
position-some f p xs i is =
    let n = position_or_len (λ x. p (f x)) xs in
    prefix_len-map f (λ y. not (p y)) xs
    ∙ elim (nat_lt n (length xs)) as (λ b. cond b (Some n) None ≡ Some i → n ≡ i)
    [ true ↦ λ e. ap (λ o. unwrap_or o n) e | false ↦ λ e. ap (λ o. elim o as (λ _. ℕ) [ None ↦ n | Some j ↦ i ]) e ] is

pub position-none : {X Y : Type 0} (f : X → Y) (p : Y → Bool) (xs : List X) → position (λ x. p (f x)) xs ≡ None → position_or_len p (map f xs) ≡ length xs
position-none f p xs is =
    let n = position_or_len (λ x. p (f x)) xs in
    let most = prefix_len-le-length (λ x. not (p (f x))) xs in
    prefix_len-map f (λ y. not (p y)) xs
    ∙ elim (cases_lt n (length xs)) [
      | inl low ↦ let t : nat_lt n (length xs) ≡ true = grind arith in ap (λ o. elim o as (λ _. ℕ) [ None ↦ length xs | Some j ↦ n ]) (rw t at is)
      | inr high ↦ omega arith
    ]

any-map : {X Y : Type 0} (f : X → Y) (p : Y → Bool) (xs : List X) → list_any p (map f xs) ≡ list_any (λ x. p (f x)) xs
any-map f p [] = refl
any-map f p (x ∷ xs) = ap (λ b. p (f x) || b) (any-map f p xs)

-- a set in the order of its names, with one more element
pub keys-next : {X : Type 0} (f : X → List ℕ) (xs : List X) (i : ℕ) (d : X) (keys new : List X) → i < length xs → map f keys ≡ take i (map f xs)
    → is_among (get_or (map f xs) i []) (take i (map f xs)) ≡ false
    → new ≡ (if list_any (λ y. is_same_name (f (get_or xs i d)) (f y)) keys then keys else keys ++ get_or xs i d ∷ []) → map f new ≡ take (i + 1) (map f xs)
keys-next f xs i d keys new low before other put =
    let x = get_or xs i d in
    let inside : i < length (map f xs) = omega (arith, length-map xs f) in
    let at : get_or (map f xs) i [] ≡ f x = get_or-map f xs i d [] low in
    let lacks : list_any (λ y. is_same_name (f x) (f y)) keys ≡ false =
    sym (any-map f (is_same_name (f x)) keys) ∙ ap (is_among (f x)) before ∙ ap (λ n. is_among n (take i (map f xs))) (sym at) ∙ other in
    let grown : new ≡ keys ++ x ∷ [] = put ∙ rw lacks refl in
    ap (map f) grown ∙ map-append f keys (x ∷ []) ∙ ap (λ l. l ++ f x ∷ []) before ∙ ap (λ n. take i (map f xs) ++ n ∷ []) (sym at)
    ∙ sym (take_more (map f xs) i [] inside)

-- the valuation that gives each name the value in its place
abbrev pub looked_up : List (List ℕ) → List Bool → List ℕ → Bool
looked_up [] values x = false
looked_up (name ∷ names) [] x = false
looked_up (name ∷ names) (value ∷ values) x =
    if is_same_name name x then value else looked_up names values x

pub looked_up-past : (name : List ℕ) (value : Bool) (names : List (List ℕ)) (values : List Bool) (xs : List (List ℕ)) → list_any (is_same_name name) xs ≡ false
    → map (looked_up (name ∷ names) (value ∷ values)) xs ≡ map (looked_up names values) xs
looked_up-past name value names values [] apart = refl
looked_up-past name value names values (x ∷ xs) apart =
    let parts = or_parts (is_same_name name x) (list_any (is_same_name name) xs) apart in
    rw parts.0 (ap (λ l. looked_up names values x ∷ l) (looked_up-past name value names values xs parts.1))

pub map-looked_up : (names : List (List ℕ)) (values : List Bool) → all_differ is_same_name names ≡ true → length names ≡ length values
    → map (looked_up names values) names ≡ values
map-looked_up [] [] differ len = refl
map-looked_up [] (value ∷ values) differ len = cc
map-looked_up (name ∷ names) [] differ len = cc
map-looked_up (name ∷ names) (value ∷ values) differ len =
    let parts = and_parts (not (list_any (is_same_name name) names)) (all_differ is_same_name names) differ in
    let rest = looked_up-past name value names values names (not-true (list_any (is_same_name name) names) parts.0)
    ∙ map-looked_up names values parts.1 (omega arith) in
    rw (nat_list_eq_equiv.refl name) (ap (λ l. value ∷ l) rest)
