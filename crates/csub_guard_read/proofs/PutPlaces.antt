-- Inner: the rules of places and of reads by a table of where names were assigned.
use Rattle.std.proofs.Common.{◌≡◌, ℕ, ◌==◌, Bool, true, false, not, cond, ◌&&◌, ◌||◌, List, [], ◌∷◌, Option, Some, None, refl, sym, ◌∙◌, ap}
use Rattle.std.specs.Prelude.{if◌then◌else◌}
use Rattle.std.specs.List.{list_any}
use Rattle.std.proofs.lemmas.Bool.{false≢true}
use lib.Pointwise.{bytes_decides}
use Rattle.base_facts.proofs.Tests.{or-false-back, or-left-none}
use Rattle.base_types.specs.Names.{is_same_name}
use Rattle.csub_guard.specs.Names.{Place, Outside, Half, Use, Put, Taken, Tested, is_outside, are_halves, are_alike, is_put_elsewhere, is_put_where, completes}
use Rattle.csub_guard.specs.Names.{is_set}
use Rattle.csub_guard_read.specs.Tables.{Puts, PutOutside, PutFirst, PutSecond, PutBoth, joined, clashes, is_set_by, is_outside_by, again_in, unset_in, noted}
use Rattle.csub_guard_read.specs.Tables.{again_by, unset_by, put_of, puts_told}
use Rattle.csub_guard_read.specs.declared.table.Puts.{Puts as CodePuts}

-- ---- the places where a name was assigned, the last one first

abbrev pub places_of : List ℕ → List Use → List Place
places_of n [] = []
places_of n (Put name place ∷ before) = if is_same_name n name then place ∷ places_of n before else places_of n before
places_of n (Taken name place ∷ before) = places_of n before
places_of n (Tested name ∷ before) = places_of n before

any-where : (n : List ℕ) (test : Place → Bool) (before : List Use) → list_any (is_put_where n test) before ≡ list_any test (places_of n before)
any-where n test [] = refl
any-where n test (Put name place ∷ before) =
    elim (is_same_name n name) as (λ b. ((b && test place) || list_any (is_put_where n test) before)
    ≡ list_any test (if b then place ∷ places_of n before else places_of n before))
    [ true ↦ ap (λ b. test place || b) (any-where n test before) | false ↦ any-where n test before ]
any-where n test (Taken name place ∷ before) = any-where n test before
any-where n test (Tested name ∷ before) = any-where n test before

any-elsewhere : (n : List ℕ) (at : Place) (before : List Use)
    → list_any (is_put_elsewhere n at) before ≡ list_any (λ o. not (are_halves o at)) (places_of n before)
any-elsewhere n at [] = refl
any-elsewhere n at (Put name place ∷ before) =
    elim (is_same_name n name) as (λ b. ((b && not (are_halves place at)) || list_any (is_put_elsewhere n at) before)
    ≡ list_any (λ o. not (are_halves o at)) (if b then place ∷ places_of n before else places_of n before))
    [ true ↦ ap (λ b. not (are_halves place at) || b) (any-elsewhere n at before) | false ↦ any-elsewhere n at before ]
any-elsewhere n at (Taken name place ∷ before) = any-elsewhere n at before
any-elsewhere n at (Tested name ∷ before) = any-elsewhere n at before

any-same : {X : Type 0} (p q : X → Bool) (xs : List X) → ((x : X) → p x ≡ q x) → list_any p xs ≡ list_any q xs
any-same p q [] same = refl
any-same p q (x ∷ xs) same = ap (λ b. b || list_any p xs) (same x) ∙ ap (λ b. q x || b) (any-same p q xs same)

-- where a name may be read
abbrev sets : List Place → Place → Place → Bool
sets places at o = is_outside o || (are_alike o at || list_any (λ other. are_halves other o) places)

set-places : (n : List ℕ) (at : Place) (before : List Use) → is_set n at before ≡ list_any (sets (places_of n before) at) (places_of n before)
set-places n at before =
    any-where n (λ o. is_outside o || (are_alike o at || completes n before o)) before
    ∙ any-same (λ o. is_outside o || (are_alike o at || completes n before o)) (sets (places_of n before) at) (places_of n before)
    (λ o. ap (λ b. is_outside o || (are_alike o at || b)) (any-where n (λ other. are_halves other o) before))

-- ---- their summary

abbrev pub summary : List Place → Option Puts
summary [] = None
summary (place ∷ places) = Some (joined (summary places) place)

-- each of them is the first, or the second half of the block in whose first half the name is assigned before
abbrev pub Clean : List Place → Type 0
Clean [] = Unit {0}
Clean (place ∷ places) = (list_any (λ o. not (are_halves o place)) places ≡ false) × Clean places

-- those that there may be
data Few : List Place → Type 0 where
  NoPlace : Few []
  OnePlace : (place : Place) → Few (place ∷ [])
  Halves : (block other : ℕ) (test own : List ℕ) → (block == other) ≡ true → Few (Half other own false ∷ Half block test true ∷ [])

not-is : (a : Bool) → not a ≡ false → a ≡ true
not-is true is = refl
not-is false is = absurd (false≢true (sym is))

few : (places : List Place) → Clean places → Few places
few [] clean = NoPlace
few (x ∷ []) clean = OnePlace x
few (x ∷ y ∷ places) clean =
    two x y places
    (not-is (are_halves y x) (or-left-none (not (are_halves y x)) (list_any (λ o. not (are_halves o x)) places) clean.0))
    clean.1.0
  where
    two : (x y : Place) (places : List Place) → are_halves y x ≡ true → list_any (λ o. not (are_halves o y)) places ≡ false → Few (x ∷ y ∷ places)
    two (Half other own false) (Half block test true) [] halves none = Halves block other test own halves
    two (Half other own false) (Half block test true) (z ∷ places) halves none =
        absurd (false≢true (sym
        (or-left-none (not (are_halves z (Half block test true))) (list_any (λ o. not (are_halves o (Half block test true))) places) none
        ∙ refl) ∙ ap not (first-none z block test)))
      where
        first-none : (z : Place) (block : ℕ) (test : List ℕ) → are_halves z (Half block test true) ≡ false
        first-none Outside block test = refl
        first-none (Half b t true) block test = refl
        first-none (Half b t false) block test = refl
    two Outside Outside places halves none = absurd (false≢true halves)
    two Outside (Half b t true) places halves none = absurd (false≢true halves)
    two Outside (Half b t false) places halves none = absurd (false≢true halves)
    two (Half b t true) Outside places halves none = absurd (false≢true halves)
    two (Half b t true) (Half c u true) places halves none = absurd (false≢true halves)
    two (Half b t true) (Half c u false) places halves none = absurd (false≢true halves)
    two (Half b t false) Outside places halves none = absurd (false≢true halves)
    two (Half b t false) (Half c u false) places halves none = absurd (false≢true halves)

or-more : (a b : Bool) → true ≡ (a || (true || b))
or-more true b = refl
or-more false b = refl

-- a place more clashes with those that there are
clash-is : (places : List Place) (at : Place) → Clean places → clashes (summary places) at ≡ list_any (λ o. not (are_halves o at)) places
clash-is places at clean = go places (few places clean)
  where
    go : (places : List Place) → Few places → clashes (summary places) at ≡ list_any (λ o. not (are_halves o at)) places
    go [] NoPlace = refl
    go (Outside ∷ []) (OnePlace place) = refl
    go (Half block test false ∷ []) (OnePlace place) = refl
    go (Half block test true ∷ []) (OnePlace place) = one at
      where
        one : (at : Place) → clashes (Some (PutFirst block test)) at ≡ (not (are_halves (Half block test true) at) || false)
        one Outside = refl
        one (Half other own true) = refl
        one (Half other own false) = or-false-back (not (block == other))
    go (Half other own false ∷ Half block test true ∷ []) (Halves b o t w same) = refl
    go (Outside ∷ (_ ∷ _)) x = elim x [ ]
    go (Half other own false ∷ (Outside ∷ _)) x = elim x [ ]
    go (Half other own false ∷ (Half block test false ∷ _)) x = elim x [ ]
    go (Half other own false ∷ (Half block test true ∷ (_ ∷ _))) x = elim x [ ]
    go (Half block test true ∷ (_ ∷ _)) x = elim x [ ]

-- a name may be read
set-is : (places : List Place) (at : Place) → Clean places → is_set_by (summary places) at ≡ list_any (sets places at) places
set-is places at clean = go places (few places clean)
  where
    go : (places : List Place) → Few places → is_set_by (summary places) at ≡ list_any (sets places at) places
    go [] NoPlace = refl
    go (Outside ∷ []) (OnePlace place) = refl
    go (Half block test true ∷ []) (OnePlace place) = one at
      where
        one : (at : Place) → is_set_by (Some (PutFirst block test)) at ≡ ((are_alike (Half block test true) at || false) || false)
        one Outside = refl
        one (Half other own true) = or-false-back (is_same_name test own) ∙ or-false-back (is_same_name test own || false)
        one (Half other own false) = refl
    go (Half block test false ∷ []) (OnePlace place) = one at
      where
        one : (at : Place) → is_set_by (Some (PutSecond test)) at ≡ ((are_alike (Half block test false) at || false) || false)
        one Outside = refl
        one (Half other own true) = refl
        one (Half other own false) = or-false-back (is_same_name test own) ∙ or-false-back (is_same_name test own || false)
    go (Half other own false ∷ Half block test true ∷ []) (Halves b o t w same) =
        ap (λ b. b || list_any (sets (Half other own false ∷ Half block test true ∷ []) at) (Half block test true ∷ []))
        (or-more (are_alike (Half other own false) at) false ∙ ap (λ h. are_alike (Half other own false) at || (h || false)) (sym same))
    go (Outside ∷ (_ ∷ _)) x = elim x [ ]
    go (Half other own false ∷ (Outside ∷ _)) x = elim x [ ]
    go (Half other own false ∷ (Half block test false ∷ _)) x = elim x [ ]
    go (Half other own false ∷ (Half block test true ∷ (_ ∷ _))) x = elim x [ ]
    go (Half block test true ∷ (_ ∷ _)) x = elim x [ ]

outside-is : (places : List Place) → is_outside_by (summary places) ≡ list_any is_outside places
outside-is [] = refl
outside-is (place ∷ places) = go place (summary places) (outside-is places)
  where
    go : (place : Place) (before : Option Puts) → is_outside_by before ≡ list_any is_outside places
        → is_outside_by (Some (joined before place)) ≡ (is_outside place || list_any is_outside places)
    go Outside before is = refl
    go (Half block test true) None is = is
    go (Half block test true) (Some PutOutside) is = is
    go (Half block test true) (Some (PutFirst b t)) is = is
    go (Half block test true) (Some (PutSecond t)) is = is
    go (Half block test true) (Some PutBoth) is = is
    go (Half block test false) None is = is
    go (Half block test false) (Some PutOutside) is = is
    go (Half block test false) (Some (PutFirst b t)) is = is
    go (Half block test false) (Some (PutSecond t)) is = is
    go (Half block test false) (Some PutBoth) is = is

-- ---- tables

-- the table has the places of each name, and those of each local are clean
pub record Knows (local : List ℕ → Bool) (puts : List ℕ → Option Puts) (before : List Use) : Type 0 where
  pub are : (n : List ℕ) → puts n ≡ summary (places_of n before)
  pub clean : (n : List ℕ) → local n ≡ true → Clean (places_of n before)

pub knows-none : (local : List ℕ → Bool) (puts : List ℕ → Option Puts) → ((n : List ℕ) → puts n ≡ None) → Knows local puts []
knows-none local puts none = record { are = none; clean = λ n is. tt }

pub again-is : (local : List ℕ → Bool) (puts : List ℕ → Option Puts) (before : List Use) → Knows local puts before → (u : Use)
    → again_in local puts u ≡ again_by local before u
again-is local puts before knows (Taken name place) = refl
again-is local puts before knows (Tested name) = refl
again-is local puts before knows (Put name place) = go (local name) refl
  where
    go : (b : Bool) → local name ≡ b → (b && clashes (puts name) place) ≡ (b && list_any (is_put_elsewhere name place) before)
    go true is =
        ap (λ p. clashes p place) (knows.are name) ∙ clash-is (places_of name before) place (knows.clean name is) ∙ sym (any-elsewhere name place before)
    go false is = refl

pub unset-is : (local : List ℕ → Bool) (puts : List ℕ → Option Puts) (before : List Use) → Knows local puts before → (u : Use)
    → unset_in local puts u ≡ unset_by local before u
unset-is local puts before knows (Put name place) = refl
unset-is local puts before knows (Taken name place) = go (local name) refl
  where
    go : (b : Bool) → local name ≡ b → (b && not (is_set_by (puts name) place)) ≡ (b && not (is_set name place before))
    go true is =
        ap (λ p. not (is_set_by p place)) (knows.are name) ∙ ap not (set-is (places_of name before) place (knows.clean name is))
        ∙ ap not (sym (set-places name place before))
    go false is = refl
unset-is local puts before knows (Tested name) =
    ap (λ p. not (is_outside_by p)) (knows.are name) ∙ ap not (outside-is (places_of name before)) ∙ ap not (sym (any-where name is_outside before))

same-turned : (x y : List ℕ) → is_same_name x y ≡ is_same_name y x
same-turned x y = go (is_same_name x y) (is_same_name y x) refl refl
  where
    go : (a b : Bool) → is_same_name x y ≡ a → is_same_name y x ≡ b → a ≡ b
    go true true is other = refl
    go false false is other = refl
    go true false is other = sym ((bytes_decides y x).1 (sym ((bytes_decides x y).0 is))) ∙ other
    go false true is other = sym is ∙ (bytes_decides x y).1 (sym ((bytes_decides y x).0 other))

-- a use more, by which no local is assigned again
pub knows-more : (local : List ℕ → Bool) (old new : List ℕ → Option Puts) (before : List Use) (u : Use) → Knows local old before
    → again_by local before u ≡ false → ((n : List ℕ) → new n ≡ noted old u n) → Knows local new (u ∷ before)
knows-more local old new before (Taken name place) knows once are = record { are = λ n. are n ∙ knows.are n; clean = knows.clean }
knows-more local old new before (Tested name) knows once are = record { are = λ n. are n ∙ knows.are n; clean = knows.clean }
knows-more local old new before (Put name place) knows once are = record { are = now; clean = clean }
  where
    now : (n : List ℕ) → new n ≡ summary (if is_same_name n name then place ∷ places_of n before else places_of n before)
    now n = are n ∙ ap (λ b. if b then Some (joined (old name) place) else old n) (same-turned name n) ∙ go (is_same_name n name) refl
      where
        go : (b : Bool) → is_same_name n name ≡ b → (if b then Some (joined (old name) place) else old n)
            ≡ summary (if b then place ∷ places_of n before else places_of n before)
        go true is = ap (λ m. Some (joined (old m) place)) (sym ((bytes_decides n name).0 is)) ∙ ap (λ p. Some (joined p place)) (knows.are n)
        go false is = knows.are n

    clean : (n : List ℕ) → local n ≡ true → Clean (if is_same_name n name then place ∷ places_of n before else places_of n before)
    clean n is = go (is_same_name n name) refl
      where
        go : (b : Bool) → is_same_name n name ≡ b → Clean (if b then place ∷ places_of n before else places_of n before)
        go true same =
            let e = (bytes_decides n name).0 same in
            let none : list_any (is_put_elsewhere name place) before ≡ false =
            sym (ap (λ b. b && list_any (is_put_elsewhere name place) before) (ap local (sym e) ∙ is)) ∙ once in
            (sym (any-elsewhere n place before) ∙ ap (λ m. list_any (is_put_elsewhere m place) before) e ∙ none, knows.clean n is)
        go false same = knows.clean n is

pub puts-cond : (b : Bool) (now : CodePuts) (old : Option CodePuts) → puts_told (cond b (Some now) old) ≡ (if b then Some (put_of now) else puts_told old)
puts-cond true now old = refl
puts-cond false now old = refl
