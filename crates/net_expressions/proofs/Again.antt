-- Inner: names that stand again, by what is known of those before.
use Rattle.std.proofs.Common.{◌≡◌, ℕ, ◌+◌, ◌<◌, Bool, true, false, ◌||◌, cond, List, [], ◌∷◌, ◌++◌, length, drop, get_or, Some, None, refl, sym, ◌∙◌}
use Rattle.std.proofs.Common.{ap}
use Rattle.std.specs.Prelude.{if◌then◌else◌}
use Rattle.std.specs.Cmp.Lexicographic.{nat_list_eq_equiv}
use Rattle.base_facts.proofs.Lists.{drop-at}
use Rattle.base_types.specs.Names.{is_same_name}
use Rattle.net_ir.specs.NameLists.{is_among, first_again}
use Rattle.net_expressions.specs.NameTables.{again_from}

pub again-same : (p q : List ℕ → Bool) (names : List (List ℕ)) → ((name : List ℕ) → p name ≡ q name) → again_from p names ≡ again_from q names
again-same p q [] same = refl
again-same p q (name ∷ names) same =
    ap (λ b. if b then Some name else again_from (λ other. is_same_name other name || p other) names) (same name)
    ∙ ap (λ l. if q name then Some name else l)
    (again-same (λ other. is_same_name other name || p other) (λ other. is_same_name other name || q other) names
    (λ other. ap (λ b. is_same_name other name || b) (same other)))

-- where those that are known are given as a list
pub again-first : (known : List ℕ → Bool) (before names : List (List ℕ)) → ((name : List ℕ) → known name ≡ is_among name before)
    → again_from known names ≡ first_again before names
again-first known before [] same = refl
again-first known before (name ∷ names) same =
    ap (λ b. if b then Some name else again_from (λ other. is_same_name other name || known other) names) (same name)
    ∙ ap (λ l. if is_among name before then Some name else l)
    (again-first (λ other. is_same_name other name || known other) (name ∷ before) names (λ other. ap (λ b. is_same_name other name || b) (same other)))

-- the next name is new
pub again-step : (p q : List ℕ → Bool) (names : List (List ℕ)) (i : ℕ) (x : List ℕ) → i < length names → x ≡ get_or names i x → p x ≡ false
    → ((name : List ℕ) → q name ≡ (cond (is_same_name x name) true (p name))) → again_from p (drop i names) ≡ again_from q (drop (i + 1) names)
again-step p q names i x low at new grows =
    ap (again_from p) (drop-at names i x low at)
    ∙ ap (λ b. if b then Some x else again_from (λ other. is_same_name other x || p other) (drop (i + 1) names)) new
    ∙ again-same (λ other. is_same_name other x || p other) q (drop (i + 1) names)
    (λ name. ap (λ b. b || p name) (nat_list_eq_equiv.symm name x) ∙ either (is_same_name x name) (p name) ∙ sym (grows name))
  where
    either : (a b : Bool) → (a || b) ≡ cond a true b
    either true b = refl
    either false b = refl

-- the next name is known
pub again-found : (p : List ℕ → Bool) (names : List (List ℕ)) (i : ℕ) (x : List ℕ) → i < length names → x ≡ get_or names i x → p x ≡ true
    → again_from p (drop i names) ≡ Some x
again-found p names i x low at old =
    ap (again_from p) (drop-at names i x low at)
    ∙ ap (λ b. if b then Some x else again_from (λ other. is_same_name other x || p other) (drop (i + 1) names)) old

-- where none stands again, none of the last ones is known or stands among the first ones
pub again-behind : (known : List ℕ → Bool) (xs ys : List (List ℕ)) → again_from known (xs ++ ys) ≡ None
    → again_from (λ name. is_among name xs || known name) ys ≡ None
again-behind known [] ys once = once
again-behind known (x ∷ xs) ys once =
    let found = λ (b : Bool). if b then Some x else again_from (λ other. is_same_name other x || known other) (xs ++ ys) in
    let new = known x in
    let grown = λ (name : List ℕ). is_same_name name x || known name in
    let more : again_from grown (xs ++ ys) ≡ None → again_from (λ name. is_among name (x ∷ xs) || known name) ys ≡ None =
    λ rest. again-same (λ name. is_among name (x ∷ xs) || known name) (λ name. is_among name xs || grown name) ys
    (λ name. swap (is_same_name name x) (is_among name xs) (known name)) ∙ again-behind grown xs ys rest in
    elim new as (λ b. known x ≡ b → again_from (λ name. is_among name (x ∷ xs) || known name) ys ≡ None)
    [ true ↦ λ is. let e = ap found (sym is) ∙ once in cc | false ↦ λ is. more (ap found (sym is) ∙ once) ] refl
  where
    swap : (a b c : Bool) → ((a || b) || c) ≡ (b || (a || c))
    swap true true c = refl
    swap true false c = refl
    swap false b c = refl

-- names of which none stands again behind others
pub once-behind : (before names : List (List ℕ)) → first_again [] (before ++ names) ≡ None → first_again before names ≡ None
once-behind before names once =
    sym (again-first (λ name. is_among name before || false) before names (λ name. or-none (is_among name before)))
    ∙ again-behind (λ _. false) before names (again-first (λ _. false) [] (before ++ names) (λ _. refl) ∙ once)
  where
    or-none : (b : Bool) → (b || false) ≡ b
    or-none true = refl
    or-none false = refl

-- one more name in the first of two sets
pub or-more : (same a new b : Bool) → new ≡ cond same true a → (new || b) ≡ cond same true (a || b)
or-more true a new b is = ap (λ x. x || b) is
or-more false a new b is = ap (λ x. x || b) is
