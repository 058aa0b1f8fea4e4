-- Names behind references, as names.
use Rattle.std.proofs.Common.{◌≡◌, ℕ, ◌+◌, Bool, true, false, cond, not, ◌||◌, List, [], ◌∷◌, ◌++◌, map, refl, sym, ◌∙◌, ap}
use Rattle.std.specs.Prelude.{position, if◌then◌else◌}
use Rattle.std.specs.List.{list_any, position_or_len}
use Rattle.std.specs.Cmp.Lexicographic.{nat_list_eq_equiv}
use Rattle.std.proofs.lemmas.List.{length-map}
use Rattle.std.proofs.lemmas.List.Folds.{list_any-append}
use Rattle.std.proofs.lemmas.Map.Steps.{list_any_congr}
use Rattle.base_types.specs.Names.{is_same_name}
use Rattle.est_names.specs.Names.{is_among}

or_false : (b : Bool) → (b || (false || false)) ≡ b
or_false true = refl
or_false false = refl

pub list_any-map : {X Y : Type 0} (p : Y → Bool) (f : X → Y) (xs : List X) → list_any p (map f xs) ≡ list_any (λ x. p (f x)) xs
list_any-map p f [] = refl
list_any-map p f (x ∷ xs) = ap (λ b. p (f x) || b) (list_any-map p f xs)

pub position_or_len-map : {X Y : Type 0} (p : Y → Bool) (f : X → Y) (xs : List X) → position_or_len p (map f xs) ≡ position_or_len (λ x. p (f x)) xs
position_or_len-map p f [] = refl
position_or_len-map p f (x ∷ xs) = ap (λ n. cond (not (p (f x))) (1 + n) 0) (position_or_len-map p f xs)

pub position-map : {X Y : Type 0} (p : Y → Bool) (f : X → Y) (xs : List X) → position p (map f xs) ≡ position (λ x. p (f x)) xs
position-map p f xs = rw (position_or_len-map p f xs, length-map xs f) refl

-- one more name, where a name that is there already is not put in again
pub is_among-insert : (name new : List ℕ) (names : List (List ℕ))
    → is_among name (if not (is_among new names) then names ++ new ∷ [] else names) ≡ is_among name (names ++ new ∷ [])
is_among-insert name new names = there (is_among new names) refl
  where
    same : (b : Bool) → is_same_name name new ≡ b → is_among new names ≡ true → is_among name names ≡ is_among name (names ++ new ∷ [])
    same true is old =
        list_any_congr nat_list_eq_equiv name new names is ∙ old
        ∙ sym (list_any-append (is_same_name name) names (new ∷ []) ∙ ap (λ b. b || (is_same_name name new || false))
        (list_any_congr nat_list_eq_equiv name new names is ∙ old))
    same false is old =
        sym (list_any-append (is_same_name name) names (new ∷ []) ∙ ap (λ b. is_among name names || (b || false)) is ∙ or_false (is_among name names))

    there : (b : Bool) → is_among new names ≡ b → is_among name (if not (is_among new names) then names ++ new ∷ [] else names) ≡
        is_among name (names ++ new ∷ [])
    there true old = ap (λ b. is_among name (if not b then names ++ new ∷ [] else names)) old ∙ same (is_same_name name new) refl old
    there false old = ap (λ b. is_among name (if not b then names ++ new ∷ [] else names)) old

-- one more name in two lists
pub is_among-push_same : (name new : List ℕ) (names others : List (List ℕ))
    → is_among name names ≡ is_among name others
    → is_among name (names ++ new ∷ []) ≡ is_among name (others ++ new ∷ [])
is_among-push_same name new names others same =
    list_any-append (is_same_name name) names (new ∷ []) ∙ ap (λ b. b || (is_same_name name new || false)) same
    ∙ sym (list_any-append (is_same_name name) others (new ∷ []))

-- A set after a name was put in, where the names so far are those before: the same names as those with the new one.
pub is_among-put : (name new : List ℕ) (is_new : Bool) (old put before all : List (List ℕ))
    → is_new ≡ not (is_among new old)
    → put ≡ (if is_new then old ++ new ∷ [] else old)
    → is_among name old ≡ is_among name before
    → all ≡ before ++ new ∷ []
    → is_among name put ≡ is_among name all
is_among-put name new is_new old put before all is names same last =
    ap (is_among name) (names ∙ ap (λ b. if b then old ++ new ∷ [] else old) is) ∙ is_among-insert name new old
    ∙ is_among-push_same name new old before same ∙ sym (ap (is_among name) last)
