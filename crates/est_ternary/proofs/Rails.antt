-- Rails: tests of statuses that go through and and or. What is present, and what is not absent, are two of them, and
-- together they make a status. Each row of the walk's tables goes through every rail to the row of the potentials.
use Rattle.std.proofs.Common.{◌≡◌, ℕ, zero, suc, Bool, true, false, not, ◌&&◌, ◌||◌, ◌==◌, refl, sym, ap, ◌∙◌, arith}
use Rattle.std.proofs.lemmas.Bool.{false≢true, true≢false}
use Rattle.base_facts.proofs.Tests.{and-false, and-true}
use Rattle.base_types.specs.Codes.{except, upto, maxima, lowered}
use Rattle.est_kernel.proofs.Exports.{upto-in}
use Rattle.est_kernel.specs.Statuses.{Status, Plus, Minus, Unknown, known, conjunction, disjunction}
use Rattle.est_kernel.specs.Potentials.{Potential, completes, emits, union, together, trapped, hidden}
use Rattle.est_ternary.specs.TriWalks.{Tri, where_met, tri_completes, tri_emits, tri_either, tri_in_turn, tri_upto, tri_maxima, tri_together}
use Rattle.est_ternary.specs.TriWalks.{tri_lowered, tri_trapped}
use Rattle.est_ternary.specs.TriWalks.{tri_hidden}
use Rattle.est_ternary.specs.Laws.{sure, possible, rail}

-- a test of statuses that goes through and and or
pub record IsRail (f : Status → Bool) : Type 0 where
  pub plus : f Plus ≡ true
  pub minus : f Minus ≡ false
  pub both : (v w : Status) → f (conjunction v w) ≡ (f v && f w)
  pub some : (v w : Status) → f (disjunction v w) ≡ (f v || f w)

pub sure_rail : IsRail sure
sure_rail = record { plus = refl; minus = refl; both = both; some = some }
  where
    both : (v w : Status) → sure (conjunction v w) ≡ (sure v && sure w)
    both Plus w = refl
    both Minus w = refl
    both Unknown Plus = refl
    both Unknown Minus = refl
    both Unknown Unknown = refl

    some : (v w : Status) → sure (disjunction v w) ≡ (sure v || sure w)
    some Plus w = refl
    some Minus w = refl
    some Unknown Plus = refl
    some Unknown Minus = refl
    some Unknown Unknown = refl

pub possible_rail : IsRail possible
possible_rail = record { plus = refl; minus = refl; both = both; some = some }
  where
    both : (v w : Status) → possible (conjunction v w) ≡ (possible v && possible w)
    both Plus w = refl
    both Minus w = refl
    both Unknown Plus = refl
    both Unknown Minus = refl
    both Unknown Unknown = refl

    some : (v w : Status) → possible (disjunction v w) ≡ (possible v || possible w)
    some Plus w = refl
    some Minus w = refl
    some Unknown Plus = refl
    some Unknown Minus = refl
    some Unknown Unknown = refl

-- the two rails make a known status
pub two_rails : (v : Status) (b : Bool) → sure v ≡ b → possible v ≡ b → v ≡ known b
two_rails Plus true s p = refl
two_rails Plus false s p = absurd (true≢false s)
two_rails Minus true s p = absurd (false≢true s)
two_rails Minus false s p = refl
two_rails Unknown true s p = absurd (false≢true s)
two_rails Unknown false s p = absurd (true≢false p)

-- and any status: two statuses on which both rails agree are one
pub same_rails : (v w : Status) → sure v ≡ sure w → possible v ≡ possible w → v ≡ w
same_rails Plus Plus s p = refl
same_rails Plus Minus s p = absurd (true≢false s)
same_rails Plus Unknown s p = absurd (true≢false s)
same_rails Minus Plus s p = absurd (false≢true s)
same_rails Minus Minus s p = refl
same_rails Minus Unknown s p = absurd (false≢true p)
same_rails Unknown Plus s p = absurd (false≢true s)
same_rails Unknown Minus s p = absurd (true≢false p)
same_rails Unknown Unknown s p = refl

-- a status that is not possible is absent
pub impossible : (v : Status) → possible v ≡ false → v ≡ Minus
impossible Plus e = absurd (true≢false e)
impossible Minus e = refl
impossible Unknown e = absurd (true≢false e)

-- a potential where a condition holds, else nothing
abbrev pub gated : Bool → Potential → Potential
gated b P = record { signals = λ t. b && P.signals t; codes = λ k. b && P.codes k }

-- the row of a sequence: the second part's potential is already that of a part that may not run
abbrev pub in_sequence : Potential → Potential → Potential
in_sequence A B = record { signals = λ t. A.signals t || B.signals t; codes = λ k. except 0 A.codes k || B.codes k }

-- the maxima of two sets a and b at a code, where x and y say that a and b have codes up to it
regrouped : (a b x y : Bool) → (a ≡ true → x ≡ true) → (b ≡ true → y ≡ true) → (x && (y && (a || b))) ≡ (a && y || b && x)
regrouped true b false y h g = absurd (false≢true (h refl))
regrouped a true x false h g = absurd (false≢true (g refl))
regrouped true true true true h g = refl
regrouped true false true true h g = refl
regrouped true false true false h g = refl
regrouped false true true true h g = refl
regrouped false true false true h g = refl
regrouped false false true true h g = refl
regrouped false false true false h g = refl
regrouped false false false y h g = refl

module _ (f : Status → Bool) (r : IsRail f) where
  pub rail_met : (b : Bool) (v : Status) → f (where_met b v) ≡ (f v && b)
  rail_met true v = sym (and-true (f v))
  rail_met false v = r.minus ∙ sym (and-false (f v))

  pub rail_completes : (c : ℕ) (g : Status) → rail f (tri_completes c g) ≡ gated (f g) (completes c)
  rail_completes c g = λ i. record {
    signals = λ t. (r.minus ∙ sym (and-false (f g))) i;
    codes = λ k. rail_met (k == c) g i;
  }

  pub rail_emits : (s : ℕ) (g : Status) → rail f (tri_emits s g) ≡ gated (f g) (emits s)
  rail_emits s g = λ i. record { signals = λ t. rail_met (t == s) g i; codes = λ k. rail_met (k == 0) g i }

  pub rail_either : (a b : Tri) → rail f (tri_either a b) ≡ union (rail f a) (rail f b)
  rail_either a b = λ i. record {
    signals = λ t. r.some (a.signals t) (b.signals t) i;
    codes = λ k. r.some (a.codes k) (b.codes k) i;
  }

  pub rail_in_turn : (a b : Tri) → rail f (tri_in_turn a b) ≡ in_sequence (rail f a) (rail f b)
  rail_in_turn a b = λ i. record {
    signals = λ t. r.some (a.signals t) (b.signals t) i;
    codes = λ k. (r.some (where_met (not (k == 0)) (a.codes k)) (b.codes k)
        ∙ ap (λ x. x || f (b.codes k)) (rail_met (not (k == 0)) (a.codes k))) i;
  }

  pub rail_upto : (A : ℕ → Status) (k : ℕ) → f (tri_upto A k) ≡ upto (λ j. f (A j)) k
  rail_upto A zero = refl
  rail_upto A (suc k) = r.some (tri_upto A k) (A (suc k)) ∙ ap (λ x. x || f (A (suc k))) (rail_upto A k)

  pub rail_maxima : (A B : ℕ → Status) (k : ℕ) → f (tri_maxima A B k) ≡ maxima (λ j. f (A j)) (λ j. f (B j)) k
  rail_maxima A B k =
      r.both (tri_upto A k) (conjunction (tri_upto B k) (disjunction (A k) (B k)))
      ∙ ap (λ x. f (tri_upto A k) && x)
      (r.both (tri_upto B k) (disjunction (A k) (B k)) ∙ ap (λ x. f (tri_upto B k) && x) (r.some (A k) (B k)))
      ∙ ap (λ x. x && (f (tri_upto B k) && (f (A k) || f (B k)))) (rail_upto A k)
      ∙ ap (λ y. upto (λ j. f (A j)) k && (y && (f (A k) || f (B k)))) (rail_upto B k)
      ∙ regrouped (f (A k)) (f (B k)) (upto (λ j. f (A j)) k) (upto (λ j. f (B j)) k)
      (λ h. upto-in (λ j. f (A j)) k k h (omega arith)) (λ h. upto-in (λ j. f (B j)) k k h (omega arith))

  pub rail_together : (a b : Tri) → rail f (tri_together a b) ≡ together (rail f a) (rail f b)
  rail_together a b = λ i. record {
    signals = λ t. r.some (a.signals t) (b.signals t) i;
    codes = λ k. rail_maxima a.codes b.codes k i;
  }

  pub rail_lowered : (A : ℕ → Status) (k : ℕ) → f (tri_lowered A k) ≡ lowered (λ j. f (A j)) k
  rail_lowered A zero = r.some (A 0) (A 2)
  rail_lowered A (suc zero) = refl
  rail_lowered A (suc (suc k)) = refl

  pub rail_trapped : (a : Tri) → rail f (tri_trapped a) ≡ trapped (rail f a)
  rail_trapped a = λ i. record { signals = λ t. f (a.signals t); codes = λ k. rail_lowered a.codes k i }

  pub rail_hidden : (s : ℕ) (a : Tri) → rail f (tri_hidden s a) ≡ hidden s (rail f a)
  rail_hidden s a = λ i. record {
    signals = λ t. rail_met (not (t == s)) (a.signals t) i;
    codes = λ k. f (a.codes k);
  }
