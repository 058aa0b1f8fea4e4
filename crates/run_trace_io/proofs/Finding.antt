-- The one signal that is present among some, one signal on.
use Rattle.std.proofs.Common.{◌≡◌, ℕ, ◌+◌, ◌<◌, ◌≤◌, ◌==◌, Bool, true, false, List, length, slice_index, refl, ap, sym, ◌∙◌, subst, arith, ⊎_elim, Option}
use Rattle.std.proofs.Common.{Some, None, IsTrue}
use Rattle.std.specs.Prelude.{Contains}
use Rattle.std.proofs.lemmas.Bool.{cases_eq, eqb-true, eqb-false, false≢true, cases_Bool}
use Rattle.std.proofs.lemmas.List.{get_or_default}
use Rattle.base_types.specs.declared.indices.SigId.{SigId}
use Rattle.base_types.specs.Relations.{IsPresent, Meets, Excludes}
use Rattle.run_trace_io.specs.Found.{found_after, IsFound}

-- a signal at a place is in the list
Contains-at : (signals : List ℕ) (i : ℕ) → i < length signals → Contains signals (slice_index signals i)
Contains-at signals i low = (i, low, get_or_default signals i (slice_index signals i) 0 low)

module _ (event : List Bool) (signals : List ℕ) (i : ℕ) (signal : SigId) (low : i < length signals) (is : slice_index signals i ≡ signal.0) where
  -- a signal that is not present
  IsFound-absent : (found : Option SigId) → IsFound event signals i found → (IsPresent event signal.0 → ⊥) → IsFound event signals (i + 1) found
  IsFound-absent None before absent = λ j h here. ⊎_elim
      (λ (same : j ≡ i). absent (subst (IsPresent event) (ap (slice_index signals) same ∙ is) here))
      (λ (apart : j ≡ i → ⊥). before j (omega arith) here)
      (cases_eq j i)
  IsFound-absent (Some found) before absent = (
    before.0,
    before.1,
    λ j h here. ⊎_elim
        (λ (same : j ≡ i). absurd (absent (subst (IsPresent event) (ap (slice_index signals) same ∙ is) here)))
        (λ (apart : j ≡ i → ⊥). before.2 j (omega arith) here)
        (cases_eq j i),
  )

  here-contained : Contains signals signal.0
  here-contained = subst (Contains signals) is (Contains-at signals i low)

  -- the first that is present, or the same again
  IsFound-present : ((j : ℕ) → j < i → IsPresent event (slice_index signals j) → slice_index signals j ≡ signal.0) → IsPresent event signal.0 →
      IsFound event signals (i + 1) (Some signal)
  IsFound-present before present = (
    here-contained,
    present,
    λ j h here. ⊎_elim
        (λ (same : j ≡ i). ap (slice_index signals) same ∙ is)
        (λ (apart : j ≡ i → ⊥). before j (omega arith) here)
        (cases_eq j i),
  )

  -- one signal on, as `found_after` answers
  pub IsFound-more : (found next : Option SigId) (present : Bool) → IsFound event signals i found → (IsTrue present → IsPresent event signal.0) →
      (IsPresent event signal.0 → IsTrue present)
      → found_after found signal present ≡ Some next → IsFound event signals (i + 1) next
  IsFound-more found next false before shows hides e =
      let same : found ≡ next = cc in
      subst (IsFound event signals (i + 1)) same (IsFound-absent found before (λ p. false≢true (hides p)))
  IsFound-more None next true before shows hides e =
      let same : Some signal ≡ next = cc in
      subst (IsFound event signals (i + 1)) same (IsFound-present (λ j h here. absurd (before j h here)) (shows refl))
  IsFound-more (Some other) next true before shows hides e = ⊎_elim
      (λ (equal : (other.0 == signal.0) ≡ true).
      let same : Some signal ≡ next = cc in
      let numbers = eqb-true other.0 signal.0 equal in
      subst (IsFound event signals (i + 1)) same (IsFound-present (λ j h here. before.2 j h here ∙ numbers) (shows refl)))
      (λ (apart : (other.0 == signal.0) ≡ false). let none : None ≡ Some next = rw apart at e in cc)
      (cases_Bool (other.0 == signal.0))

  -- two that differ
  pub two_present : (found : Option SigId) (present : Bool) → IsFound event signals i found → (IsTrue present → IsPresent event signal.0) →
      found_after found signal present ≡ None → Meets event (Excludes signals) → ⊥
  two_present found false before shows e = let none : Some found ≡ None = e in cc
  two_present None true before shows e = let none : Some (Some signal) ≡ None = e in cc
  two_present (Some other) true before shows e = ⊎_elim
      (λ (equal : (other.0 == signal.0) ≡ true). let none : Some (Some signal) ≡ None = rw equal at e in cc)
      (λ (apart : (other.0 == signal.0) ≡ false). λ meets. meets other.0 signal.0 before.0 here-contained (eqb-false other.0 signal.0 apart) before.1
      (shows refl))
      (cases_Bool (other.0 == signal.0))

-- only the found one is present among all
pub Meets-found : (event : List Bool) (signals : List ℕ) (found : Option SigId) (count : ℕ) → length signals ≤ count → IsFound event signals count found →
    Meets event (Excludes signals)
Meets-found event signals None count all none a b in_a in_b apart here there =
    none in_a.0 (omega (arith, in_a.1)) (subst (IsPresent event) (sym (get_or_default signals in_a.0 0 a in_a.1 ∙ in_a.2)) here)
Meets-found event signals (Some found) count all only a b in_a in_b apart here there =
    let at_a = get_or_default signals in_a.0 0 a in_a.1 ∙ in_a.2 in
    let at_b = get_or_default signals in_b.0 0 b in_b.1 ∙ in_b.2 in
    let is_a = only.2 in_a.0 (omega (arith, in_a.1)) (subst (IsPresent event) (sym at_a) here) in
    let is_b = only.2 in_b.0 (omega (arith, in_b.1)) (subst (IsPresent event) (sym at_b) there) in
    apart (sym at_a ∙ is_a ∙ sym is_b ∙ at_b)
