-- The locals that are not assigned yet, by a set of locals and a set of assigned names.
use Rattle.std.proofs.Common.{◌≡◌, ℕ, Bool, true, false, not, cond, ◌&&◌, List, [], ◌∷◌, refl, sym, ap, ◌∙◌, Some, None}
use Rattle.std.specs.Prelude.{find, filter, if◌then◌else◌}
use Rattle.base_types.specs.Names.{is_same_name}
use Rattle.net_ir.specs.NameLists.{is_among}
use Rattle.net_ir.proofs.Exports.{find-same, is_among-filter}
use Rattle.csub_text.specs.Trees.{Expr, Assign}
use Rattle.csub_text.specs.Names.{names_in, or_else, unset_from}

filter-same : {X : Type 0} (p q : X → Bool) (xs : List X) → ((x : X) → p x ≡ q x) → filter p xs ≡ filter q xs
filter-same p q [] same = refl
filter-same p q (x ∷ xs) same = ap (λ b. if b then x ∷ filter p xs else filter p xs) (same x) ∙ ap (λ l. if q x then x ∷ l else l) (filter-same p q xs same)

filter-twice : {X : Type 0} (p q : X → Bool) (xs : List X) → filter p (filter q xs) ≡ filter (λ x. q x && p x) xs
filter-twice p q [] = refl
filter-twice p q (x ∷ xs) =
    elim (q x) as (λ b. filter p (if b then x ∷ filter q xs else filter q xs)
    ≡ (if b && p x then x ∷ filter (λ x. q x && p x) xs else filter (λ x. q x && p x) xs))
    [ true ↦ ap (λ l. if p x then x ∷ l else l) (filter-twice p q xs) | false ↦ filter-twice p q xs ]

filter-all : {X : Type 0} (p : X → Bool) (xs : List X) → ((x : X) → p x ≡ true) → filter p xs ≡ xs
filter-all p [] all = refl
filter-all p (x ∷ xs) all = ap (λ b. if b then x ∷ filter p xs else filter p xs) (all x) ∙ ap (λ l. x ∷ l) (filter-all p xs all)

-- the first local that is read too early, by a set of locals and a set of those that are assigned
pub unset-here : (known assigned : List ℕ → Bool) (locals names : List (List ℕ)) → ((n : List ℕ) → known n ≡ is_among n locals)
    → find (λ n. is_among n (filter (λ m. not (assigned m)) locals)) names ≡ find (λ n. known n && not (assigned n)) names
unset-here known assigned locals names same =
    find-same (λ n. is_among n (filter (λ m. not (assigned m)) locals)) (λ n. known n && not (assigned n)) names
    (λ n. is_among-filter (λ m. not (assigned m)) n locals ∙ ap (λ b. b && not (assigned n)) (sym (same n)))

not_or : (a b : Bool) → (not b && not a) ≡ not (cond a true b)
not_or true true = refl
not_or true false = refl
not_or false true = refl
not_or false false = refl

-- one more name is assigned
pub filter-more : (old new : List ℕ → Bool) (target : List ℕ) (locals : List (List ℕ)) → ((n : List ℕ) → new n ≡ cond (is_same_name target n) true (old n))
    → filter (λ n. not (is_same_name target n)) (filter (λ n. not (old n)) locals) ≡ filter (λ n. not (new n)) locals
filter-more old new target locals grows =
    filter-twice (λ n. not (is_same_name target n)) (λ n. not (old n)) locals
    ∙ filter-same (λ n. not (old n) && not (is_same_name target n)) (λ n. not (new n)) locals
    (λ n. not_or (is_same_name target n) (old n) ∙ ap not (sym (grows n)))

-- none is assigned
pub filter-none : (old : List ℕ → Bool) (locals : List (List ℕ)) → ((n : List ℕ) → old n ≡ false) → filter (λ n. not (old n)) locals ≡ locals
filter-none old locals none = filter-all (λ n. not (old n)) locals (λ n. ap not (none n))

pub unset-step : (known old new : List ℕ → Bool) (locals : List (List ℕ)) (a : Assign) (body : List Assign) (answer : Expr)
    → ((n : List ℕ) → known n ≡ is_among n locals)
    → find (λ n. known n && not (old n)) (names_in a.value) ≡ None → ((n : List ℕ) → new n ≡ cond (is_same_name a.target n) true (old n))
    → unset_from (filter (λ n. not (old n)) locals) (a ∷ body) answer ≡ unset_from (filter (λ n. not (new n)) locals) body answer
unset-step known old new locals a body answer same none grows =
    ap (λ o. or_else o (unset_from (filter (λ n. not (is_same_name a.target n)) (filter (λ n. not (old n)) locals)) body answer))
    (unset-here known old locals (names_in a.value) same ∙ none)
    ∙ ap (λ l. unset_from l body answer) (filter-more old new a.target locals grows)

pub unset-found : (known old : List ℕ → Bool) (locals : List (List ℕ)) (a : Assign) (body : List Assign) (answer : Expr) (name : List ℕ)
    → ((n : List ℕ) → known n ≡ is_among n locals)
    → find (λ n. known n && not (old n)) (names_in a.value) ≡ Some name → unset_from (filter (λ n. not (old n)) locals) (a ∷ body) answer ≡ Some name
unset-found known old locals a body answer name same found =
    ap (λ o. or_else o (unset_from (filter (λ n. not (is_same_name a.target n)) (filter (λ n. not (old n)) locals)) body answer))
    (unset-here known old locals (names_in a.value) same ∙ found)

pub unset-last : (known old : List ℕ → Bool) (locals : List (List ℕ)) (answer : Expr) → ((n : List ℕ) → known n ≡ is_among n locals)
    → unset_from (filter (λ n. not (old n)) locals) [] answer ≡ find (λ n. known n && not (old n)) (names_in answer)
unset-last known old locals answer same = unset-here known old locals (names_in answer) same
