-- Equations that read outputs of earlier ones alone have no combinational cycle.
use Rattle.std.proofs.Common.{◌≡◌, ℕ, ◌+◌, ◌-◌, ◌<◌, ◌≤◌, zero, suc, List, length, get_or, sym, ap, ◌∙◌, subst, arith, ⊎_elim}
use Rattle.std.specs.Prelude.{Contains}
use Rattle.std.proofs.lemmas.Bool.{cases_lt}
use Rattle.std.proofs.lemmas.List.{get_or_default}
use Rattle.run_steps.specs.Equations.{NameEquation, NeedsName, name_at, IsEquationLoop, HasNoEquationLoop}
use Rattle.run_steps.specs.Order.{no_equation}

-- where an equation reads the output of another, that one stands before it
abbrev pub IsRising : List NameEquation → Type 0
IsRising equations =
    (k m : ℕ) (d : NameEquation) → k < length equations → m < length equations → Contains (get_or equations k d).reads (get_or equations m d).output → m < k

-- at this place stands an equation that gives a name its value and reads the other
record ReadsAt (equations : List NameEquation) (d : NameEquation) (name other : List ℕ) (place : ℕ) : Type 0 where
  low : place < length equations
  drives : (get_or equations place d).output ≡ name
  reads : Contains (get_or equations place d).reads other

place-of : (equations : List NameEquation) (d : NameEquation) (name other : List ℕ) → NeedsName equations name other
    → (place : ℕ) × ReadsAt equations d name other place
place-of equations d name other needs =
    let at : get_or equations needs.stands.0 d ≡ needs.equation = get_or_default equations needs.stands.0 d needs.equation needs.stands.1 ∙ needs.stands.2 in (
      needs.stands.0,
      record {
        low = needs.stands.1;
        drives = ap (λ (e : NameEquation). e.output) at ∙ needs.drives;
        reads = subst (λ (e : NameEquation). Contains e.reads other) (sym at) needs.reads;
      },
    )

-- the equation of a name that is read stands lower
lower : (equations : List NameEquation) (d : NameEquation) (a b other : List ℕ) (k m : ℕ) → IsRising equations
    → ReadsAt equations d a b k → ReadsAt equations d b other m → m < k
lower equations d a b other k m rising x y =
    rising k m d x.low y.low (subst (λ n. Contains (get_or equations k d).reads n) (sym y.drives) x.reads)

-- along the names of a cycle the places fall
falls : (equations : List NameEquation) (d : NameEquation) (names : List (List ℕ)) (first : ℕ) → IsRising equations → IsEquationLoop equations names
    → ReadsAt equations d (name_at names 0) (name_at names 1) first → (i : ℕ) → i + 1 < length names
    → (place : ℕ) × ReadsAt equations d (name_at names i) (name_at names (i + 1)) place × (place + i ≤ first)
falls equations d names first rising loop begins zero l = (first, begins, omega arith)
falls equations d names first rising loop begins (suc i) l =
    let before = falls equations d names first rising loop begins i (omega (arith, l)) in
    let next : i + 1 ≡ suc i = omega arith in
    let there = subst (λ k. ReadsAt equations d (name_at names i) (name_at names k) before.0) next before.1 in
    let here = place-of equations d (name_at names (suc i)) (name_at names (suc i + 1)) (loop.steps (suc i) l) in
    let low = lower equations d (name_at names i) (name_at names (suc i)) (name_at names (suc i + 1)) before.0 here.0 rising there here.1 in
    (here.0, here.1, omega (arith, low, before.2))

pub rising-no_loop : (equations : List NameEquation) → IsRising equations → HasNoEquationLoop equations
rising-no_loop equations rising names loop = ⊎_elim one more (cases_lt 1 (length names))
  where
    d : NameEquation
    d = no_equation

    closing : (place : ℕ) × ReadsAt equations d (name_at names (length names - 1)) (name_at names 0) place
    closing = place-of equations d (name_at names (length names - 1)) (name_at names 0) loop.closes

    more : length names ≤ 1 → ⊥
    more h =
        let some = loop.some_name in
        let last : length names - 1 ≡ 0 = omega arith in
        let again = subst (λ k. ReadsAt equations d (name_at names k) (name_at names 0) closing.0) last closing.1 in
        let low = lower equations d (name_at names 0) (name_at names 0) (name_at names 0) closing.0 closing.0 rising again again in
        omega (arith, low)

    one : 1 < length names → ⊥
    one h =
        let begins = place-of equations d (name_at names 0) (name_at names 1) (loop.steps 0 h) in
        let end = falls equations d names begins.0 rising loop begins.1 (length names - 2) (omega (arith, h)) in
        let last : length names - 2 + 1 ≡ length names - 1 = omega (arith, h) in
        let there = subst (λ k. ReadsAt equations d (name_at names (length names - 2)) (name_at names k) end.0) last end.1 in
        let low = lower equations d (name_at names (length names - 2)) (name_at names (length names - 1)) (name_at names 0) end.0 closing.0 rising there
        closing.1 in
        let back = lower equations d (name_at names (length names - 1)) (name_at names 0) (name_at names 1) closing.0 begins.0 rising closing.1 begins.1 in
        omega (arith, low, back, end.2)
