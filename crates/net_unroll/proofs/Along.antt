-- Along a schedule, more and more is known, never more than in a solution, and the truth values agree with it.
use Rattle.std.proofs.Common.{◌≡◌, ℕ, suc, ◌<◌, Bool, true, false, ◌==◌, if◌then◌else◌, List, [], ◌∷◌, length, refl, sym, ap, ◌∙◌, subst, arith}
use Rattle.std.proofs.lemmas.Bool.{eqb-true}
use Rattle.est_kernel.specs.Laws.{IsBelow, KnowsMore}
use Rattle.est_kernel.specs.Statuses.{Status, Plus, Minus, Unknown, known, with_status}
use Rattle.est_kernel.proofs.Exports.{below_self, below_trans, conjunction_below, conjunction-known, disjunction_below, disjunction-known, opposite_below}
use Rattle.est_kernel.proofs.Exports.{opposite-known, with_status-more}
use Rattle.grc_ternary_gates.specs.declared.gates.Gate.{Gate}
use Rattle.grc_ternary_gates.specs.declared.gates.Gate.TheVariants as gates
use Rattle.grc_ternary_gates.specs.Systems.{IsSolution, gate_at, gate_status}
use Rattle.net_unroll.specs.Laws.{IsSchedule, KnownSchedulesSettle, SchedulesStayBelow, TruthsAgree}
use Rattle.net_unroll.specs.Schedules.{all_false, gate_truth, is_known, nothing_known, statuses_along, truths_along, with_truth}

-- ---- gates

-- a gate grows with what it reads
gate_below : (sources : List Bool) (V U : ℕ → Status) (g : Gate) → KnowsMore V U → IsBelow (gate_status sources V g) (gate_status sources U g)
gate_below sources V U (gates.Source k) h = below_self _
gate_below sources V U (gates.Same a) h = h.statuses a
gate_below sources V U (gates.Not a) h = opposite_below (V a) (U a) (h.statuses a)
gate_below sources V U (gates.And a b) h = conjunction_below (V a) (U a) (V b) (U b) (h.statuses a) (h.statuses b)
gate_below sources V U (gates.Or a b) h = disjunction_below (V a) (U a) (V b) (U b) (h.statuses a) (h.statuses b)

-- where all is known, a gate has its truth value
gate-known : (sources : List Bool) (B : ℕ → Bool) (g : Gate) → gate_status sources (λ n. known (B n)) g ≡ known (gate_truth sources B g)
gate-known sources B (gates.Source k) = refl
gate-known sources B (gates.Same a) = refl
gate-known sources B (gates.Not a) = opposite-known (B a)
gate-known sources B (gates.And a b) = conjunction-known (B a) (B b)
gate-known sources B (gates.Or a b) = disjunction-known (B a) (B b)

-- ---- one node takes the value of its gate

-- each status is below that of its gate
record IsSure (all : List Gate) (sources : List Bool) (V : ℕ → Status) : Type 0 where
  sure : (n : ℕ) → IsBelow (V n) (gate_status sources V (gate_at all n))

module _ (all : List Gate) (sources : List Bool) where
  abbrev value_at : (ℕ → Status) → ℕ → Status
  value_at V n = gate_status sources V (gate_at all n)

  abbrev after : (ℕ → Status) → ℕ → ℕ → Status
  after V n = with_status V n (value_at V n)

  grows : (V : ℕ → Status) (n : ℕ) → IsSure all sources V → KnowsMore V (after V n)
  grows V n s = record { statuses = λ m. by m (m == n) refl } where
    by : (m : ℕ) (b : Bool) → (m == n) ≡ b → IsBelow (V m) (if b then value_at V n else V m)
    by m true e = subst (λ x. IsBelow (V x) (value_at V n)) (sym (eqb-true m n e)) (s.sure n)
    by m false e = below_self (V m)

  stays-sure : (V : ℕ → Status) (n : ℕ) → IsSure all sources V → IsSure all sources (after V n)
  stays-sure V n s = record { sure = λ m. by m (m == n) refl } where
    up : (m : ℕ) → IsBelow (value_at V m) (value_at (after V n) m)
    up m = gate_below sources V (after V n) (gate_at all m) (grows V n s)

    by : (m : ℕ) (b : Bool) → (m == n) ≡ b → IsBelow (if b then value_at V n else V m) (value_at (after V n) m)
    by m true e = subst (λ x. IsBelow (value_at V n) (value_at (after V n) x)) (sym (eqb-true m n e)) (up n)
    by m false e = below_trans (V m) (value_at V m) (value_at (after V n) m) (s.sure m) (up m)

  stays-below : (V U : ℕ → Status) (n : ℕ) → IsSolution all sources U → n < length all → KnowsMore V U → KnowsMore (after V n) U
  stays-below V U n met low h = record { statuses = λ m. by m (m == n) refl } where
    up : IsBelow (value_at V n) (U n)
    up = subst (λ x. IsBelow (value_at V n) x) (sym (met.met n low)) (gate_below sources V U (gate_at all n) h)

    by : (m : ℕ) (b : Bool) → (m == n) ≡ b → IsBelow (if b then value_at V n else V m) (U m)
    by m true e = subst (λ x. IsBelow (value_at V n) (U x)) (sym (eqb-true m n e)) up
    by m false e = h.statuses m

  -- truth values are statuses that are known
  abbrev known_of : (ℕ → Bool) → ℕ → Status
  known_of B = λ n. known (B n)

  known-after : (B : ℕ → Bool) (n : ℕ) → after (known_of B) n ≡ known_of (with_truth B n (gate_truth sources B (gate_at all n)))
  known-after B n = λ i m. by m (m == n) i where
    by : (m : ℕ) (b : Bool) → (if b then value_at (known_of B) n else known (B m)) ≡ known (if b then gate_truth sources B (gate_at all n) else B m)
    by m true = gate-known sources B (gate_at all n)
    by m false = refl

  -- ---- all nodes of a schedule

  sure-along : (ns : List ℕ) (V : ℕ → Status) → IsSure all sources V → IsSure all sources (statuses_along all sources V ns)
  sure-along [] V s = s
  sure-along (n ∷ ns) V s = sure-along ns (after V n) (stays-sure V n s)

  below-along : (ns : List ℕ) (V U : ℕ → Status) → IsSolution all sources U → IsSchedule all ns → KnowsMore V U
      → KnowsMore (statuses_along all sources V ns) U
  below-along [] V U met fits h = h
  below-along (n ∷ ns) V U met fits h =
      below-along ns (after V n) U met (λ k d low. fits (suc k) d (omega arith)) (stays-below V U n met (fits 0 n (omega arith)) h)

  more-along : (ns : List ℕ) (V U : ℕ → Status) → KnowsMore V U → KnowsMore (statuses_along all sources V ns) (statuses_along all sources U ns)
  more-along [] V U h = h
  more-along (n ∷ ns) V U h =
      more-along ns (after V n) (after U n) (with_status-more n (value_at V n) (value_at U n) h (gate_below sources V U (gate_at all n) h))

  known-along : (ns : List ℕ) (B : ℕ → Bool) → statuses_along all sources (known_of B) ns ≡ known_of (truths_along all sources B ns)
  known-along [] B = refl
  known-along (n ∷ ns) B =
      ap (λ V. statuses_along all sources V ns) (known-after B n) ∙ known-along ns (with_truth B n (gate_truth sources B (gate_at all n)))

-- what is known and below another status is that status
pub known-below : (u v : Status) → is_known u ≡ true → IsBelow u v → u ≡ v
known-below Plus v k h = sym h
known-below Minus v k h = sym h
known-below Unknown v k h = absurd (cc)

-- ---- the laws

pub schedules_stay_below_lem : SchedulesStayBelow
schedules_stay_below_lem all sources schedule U fits met n =
    (below-along all sources schedule nothing_known U met fits (record { statuses = λ m. tt })).statuses n

pub truths_agree_lem : TruthsAgree
truths_agree_lem all sources schedule n =
    let more = more-along all sources schedule nothing_known (λ m. known (all_false m)) (record { statuses = λ m. tt }) in
    subst (λ (V : ℕ → Status). IsBelow (statuses_along all sources nothing_known schedule n) (V n)) (known-along all sources schedule all_false)
    (more.statuses n)

pub known_schedules_settle_lem : KnownSchedulesSettle
known_schedules_settle_lem all sources schedule fits whole =
    let V = statuses_along all sources nothing_known schedule in
    let s = sure-along all sources schedule nothing_known (record { sure = λ m. tt }) in
    record {
      least = record {
        solves = record { met = λ n low. known-below (V n) (gate_status sources V (gate_at all n)) (whole n low) (s.sure n) };
        least = λ U met n low. schedules_stay_below_lem all sources schedule U fits met n;
      };
      truths = λ n low. known-below (V n) (known (truths_along all sources all_false schedule n)) (whole n low) (truths_agree_lem all sources schedule n);
    }
