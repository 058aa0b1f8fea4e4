-- Uses of names, one after another, that break no rule.
use Rattle.std.proofs.Common.{◌≡◌, ℕ, zero, suc, Bool, true, false, not, ◌&&◌, ◌||◌, ◌==◌, List, [], ◌∷◌, ◌++◌, map, get_or, Some}
use Rattle.std.proofs.Common.{None}
use Rattle.std.proofs.Common.{refl, sym, ap, ◌∙◌, subst, arith, ◌⊎◌, inl, inr, ⊎_elim}
use Rattle.std.specs.Prelude.{Contains, if◌then◌else◌}
use Rattle.std.specs.List.{list_any, AllByRecursion}
use Rattle.std.proofs.lemmas.Bool.{or_parts, or_from, or_left, or_right, and_from, eq-eqb}
use Rattle.std.proofs.lemmas.List.Folds.{list_any_at}
use Rattle.base_facts.proofs.Lists.{contains-later}
use Rattle.base_facts.proofs.Tests.{and-true}
use Rattle.base_types.proofs.Exports.{same_name-self}
use Rattle.base_types.specs.Names.{is_same_name}
use Rattle.net_ir.specs.NameLists.{is_among}
use Rattle.csub_text.specs.Trees.{Assign}
use Rattle.csub_text.specs.Names.{names_in}
use Rattle.csub_guard.specs.Names.{Place, Outside, Half, Use, Put, Taken, Tested, used_name, made_uses, first_breaking, are_halves, is_put_elsewhere}
use Rattle.csub_guard.specs.Names.{are_alike, is_put_where, completes, is_set, is_again, is_unset}
use Rattle.csub_guard.specs.Trees.{Program}

-- each use breaks no rule, behind those before it
abbrev pub Passes : (List Use → Use → Bool) → List Use → List Use → Type 0
Passes breaks before [] = Unit {0}
Passes breaks before (u ∷ uses) = (breaks before u ≡ false) × Passes breaks (u ∷ before) uses

pub passes-none : (breaks : List Use → Use → Bool) (before uses : List Use) → Passes breaks before uses → first_breaking breaks before uses ≡ None
passes-none breaks before [] all = refl
passes-none breaks before (u ∷ uses) all =
    ap (λ b. if b then Some (used_name u) else first_breaking breaks (u ∷ before) uses) all.0 ∙ passes-none breaks (u ∷ before) uses all.1

-- the uses so far, the last one first
abbrev pub behind : List Use → List Use → List Use
behind before [] = before
behind before (u ∷ uses) = behind (u ∷ before) uses

pub passes-append : (breaks : List Use → Use → Bool) (before xs ys : List Use) → Passes breaks before xs → Passes breaks (behind before xs) ys
    → Passes breaks before (xs ++ ys)
passes-append breaks before [] ys a b = b
passes-append breaks before (x ∷ xs) ys a b = (a.0, passes-append breaks (x ∷ before) xs ys a.1 b)

pub behind-append : (before xs ys : List Use) → behind before (xs ++ ys) ≡ behind (behind before xs) ys
behind-append before [] ys = refl
behind-append before (x ∷ xs) ys = behind-append (x ∷ before) xs ys

pub still : (before uses : List Use) (u : Use) → Contains before u → Contains (behind before uses) u
still before [] u h = h
still before (x ∷ uses) u h = still (x ∷ before) uses u (contains-later x u before h)

pub just : (before uses : List Use) (u : Use) → Contains uses u → Contains (behind before uses) u
just before [] u h = absurd (omega (arith, h.1))
just before (x ∷ uses) u h = go (λ l. just (x ∷ before) uses u l) h.0 refl
  where
    go : (Contains uses u → Contains (behind (x ∷ before) uses) u) → (k : ℕ) → h.0 ≡ k → Contains (behind (x ∷ before) uses) u
    go later zero e = still (x ∷ before) uses u (0, omega arith, ap (λ j. get_or (x ∷ uses) j u) (sym e) ∙ h.2)
    go later (suc k) e = later (k, omega (arith, h.1, e), ap (λ j. get_or (x ∷ uses) j u) (sym e) ∙ h.2)

pub any-of : (p : Use → Bool) (xs : List Use) (u : Use) → Contains xs u → p u ≡ true → list_any p xs ≡ true
any-of p xs u h e = list_any_at p xs h.0 u h.1 (ap p h.2 ∙ e)

-- ---- a name that was assigned nowhere

abbrev anywhere : Place → Bool
anywhere place = true

abbrev pub NoPut : List ℕ → List Use → Type 0
NoPut x before = list_any (is_put_where x anywhere) before ≡ false

pub clear : (x : List ℕ) (place : Place) (before : List Use) → NoPut x before → list_any (is_put_elsewhere x place) before ≡ false
clear x place [] none = refl
clear x place (u ∷ before) none =
    let parts = or_parts (is_put_where x anywhere u) (list_any (is_put_where x anywhere) before) none in
    or_from (is_put_elsewhere x place u) (list_any (is_put_elsewhere x place) before) (one u parts.0) (clear x place before parts.1)
  where
    one : (u : Use) → is_put_where x anywhere u ≡ false → is_put_elsewhere x place u ≡ false
    one (Put other own) e = ap (λ b. b && not (are_halves own place)) (sym (and-true (is_same_name x other)) ∙ e)
    one (Taken other own) e = refl
    one (Tested other) e = refl

-- what is taken or put under other names changes nothing
pub no-taken : (x : List ℕ) (place : Place) (names : List (List ℕ)) (before : List Use) → NoPut x before
    → NoPut x (behind before (map (λ n. Taken n place) names))
no-taken x place [] before none = none
no-taken x place (n ∷ names) before none = no-taken x place names (Taken n place ∷ before) none

pub no-made : (x : List ℕ) (place : Place) (a : Assign) (before : List Use) → is_same_name x a.target ≡ false → NoPut x before
    → NoPut x (behind before (made_uses place a))
no-made x place a before e none =
    subst (NoPut x) (sym (behind-append before (map (λ n. Taken n place) (names_in a.value)) (Put a.target place ∷ [])))
    (or_from (is_same_name x a.target && true) _ (and-true (is_same_name x a.target) ∙ e) (no-taken x place (names_in a.value) before none))

-- ---- a use that sets

-- a name is set at a place: it was assigned outside of blocks, or in both halves of a block, or in this kind of half under this test
abbrev pub SetBy : List ℕ → Place → List Use → Type 0
SetBy x place before =
    Contains before (Put x Outside)
    ⊎ (((b : ℕ) × ((t : List ℕ) × (Contains before (Put x (Half b t true)) × Contains before (Put x (Half b t false)))))
    ⊎ ((b : ℕ) × ((t : List ℕ) × ((c : ℕ) × ((place ≡ Half c t true) × Contains before (Put x (Half b t true)))))))

pub set-by : (x : List ℕ) (place : Place) (before : List Use) → SetBy x place before → is_set x place before ≡ true
set-by x place before (inl h) = any-of _ before (Put x Outside) h (ap (λ b. b && true) (same_name-self x))
set-by x place before (inr (inl h)) =
    any-of _ before (Put x (Half h.0 h.1.0 false)) h.1.1.1
    (and_from (is_same_name x x) (are_alike (Half h.0 h.1.0 false) place || completes x before (Half h.0 h.1.0 false)) (same_name-self x)
    (or_right (are_alike (Half h.0 h.1.0 false) place) (completes x before (Half h.0 h.1.0 false))
    (any-of _ before (Put x (Half h.0 h.1.0 true)) h.1.1.0 (and_from (is_same_name x x) (h.0 == h.0) (same_name-self x) (eq-eqb h.0 h.0 refl)))))
set-by x place before (inr (inr h)) =
    let t = h.1.0 in
    any-of _ before (Put x (Half h.0 t true)) h.1.1.1.1
    (and_from (is_same_name x x) (are_alike (Half h.0 t true) place || completes x before (Half h.0 t true)) (same_name-self x)
    (or_left (are_alike (Half h.0 t true) place) (completes x before (Half h.0 t true))
    (ap (are_alike (Half h.0 t true)) h.1.1.1.0 ∙ same_name-self t)))

pub set-still : (x : List ℕ) (place : Place) (before uses : List Use) → SetBy x place before → SetBy x place (behind before uses)
set-still x place before uses (inl h) = inl (still before uses (Put x Outside) h)
set-still x place before uses (inr (inl h)) =
    inr (inl (h.0, (h.1.0, (still before uses (Put x (Half h.0 h.1.0 true)) h.1.1.0, still before uses (Put x (Half h.0 h.1.0 false)) h.1.1.1))))
set-still x place before uses (inr (inr h)) =
    inr (inr (h.0, (h.1.0, (h.1.1.0, (h.1.1.1.0, still before uses (Put x (Half h.0 h.1.0 true)) h.1.1.1.1)))))

-- names that are read, each of which is no local or is set
pub taken-passes : (p : Program) (place : Place) (names : List (List ℕ)) (before : List Use)
    → AllByRecursion (λ n. (is_among n p.locals ≡ false) ⊎ SetBy n place before) names
    → Passes (is_unset p) before (map (λ n. Taken n place) names)
taken-passes p place [] before all = tt
taken-passes p place (n ∷ names) before all = (
  ⊎_elim (λ e. ap (λ b. b && not (is_set n place before)) e)
      (λ s. ap (λ b. is_among n p.locals && not b) (set-by n place before s) ∙ and-no (is_among n p.locals)) all.0,
  taken-passes p place names (Taken n place ∷ before) (later names all.1),
)
  where
    and-no : (b : Bool) → (b && false) ≡ false
    and-no true = refl
    and-no false = refl

    later : (names : List (List ℕ)) → AllByRecursion (λ n. (is_among n p.locals ≡ false) ⊎ SetBy n place before) names
        → AllByRecursion (λ m. (is_among m p.locals ≡ false) ⊎ SetBy m place (Taken n place ∷ before)) names
    later [] all = tt
    later (m ∷ names) all = (⊎_elim (λ e. inl e) (λ s. inr (set-still m place before (Taken n place ∷ []) s)) all.0, later names all.1)

-- a name that is read breaks no rule of places
pub taken-again : (p : Program) (place : Place) (names : List (List ℕ)) (before : List Use) → Passes (is_again p) before (map (λ n. Taken n place) names)
taken-again p place [] before = tt
taken-again p place (n ∷ names) before = (refl, taken-again p place names (Taken n place ∷ before))
