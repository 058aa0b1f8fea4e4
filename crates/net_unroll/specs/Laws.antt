-- Contract: the laws of evaluations along a schedule.
use Rattle.std.specs.Prelude.{◌≡◌, ℕ, ◌<◌, Bool, true, List, length, All}
use Rattle.est_kernel.specs.Laws.{IsBelow}
use Rattle.est_kernel.specs.Statuses.{Status, known}
use Rattle.grc_ternary_gates.specs.declared.gates.Gate.{Gate}
use Rattle.grc_ternary_gates.specs.Systems.{IsLeastSolution, IsSolution}
use Rattle.net_unroll.specs.Schedules.{all_false, is_known, nothing_known, statuses_along, truths_along}

-- a schedule of a system's nodes
abbrev pub IsSchedule : List Gate → List ℕ → Type 0
IsSchedule all schedule = All (λ n. n < length all) schedule

-- Whatever the schedule, no more is known along it than in every solution.
abbrev pub SchedulesStayBelow : Type 0
SchedulesStayBelow =
    (all : List Gate) (sources : List Bool) (schedule : List ℕ) (U : ℕ → Status) → IsSchedule all schedule
    → IsSolution all sources U → (n : ℕ) → IsBelow (statuses_along all sources nothing_known schedule n) (U n)

-- Whatever the schedule, the truth values along it, from all false, are those of each node that is known.
abbrev pub TruthsAgree : Type 0
TruthsAgree =
    (all : List Gate) (sources : List Bool) (schedule : List ℕ) (n : ℕ)
    → IsBelow (statuses_along all sources nothing_known schedule n)
    (known (truths_along all sources all_false schedule n))

-- What a schedule gives is the least solution of the system, and the truth values along it are those of that solution.
pub record Settles (all : List Gate) (sources : List Bool) (schedule : List ℕ) : Type 0 where
  pub least : IsLeastSolution all sources (statuses_along all sources nothing_known schedule)
  pub truths : (n : ℕ) → n < length all
      → statuses_along all sources nothing_known schedule n ≡ known (truths_along all sources all_false schedule n)

-- Where a schedule leaves no node unknown, it settles the system.
abbrev pub KnownSchedulesSettle : Type 0
KnownSchedulesSettle =
    (all : List Gate) (sources : List Bool) (schedule : List ℕ) → IsSchedule all schedule
    → ((n : ℕ) → n < length all → is_known (statuses_along all sources nothing_known schedule n) ≡ true)
    → Settles all sources schedule
