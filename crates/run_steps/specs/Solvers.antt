-- Inner: the equations of a text with their names resolved, and the plan that solves them.
use Rattle.std.specs.Prelude.{◌≡◌, ℕ, ◌<◌, List, length, map, All, slice_index_or}
use Rattle.run_steps.specs.Slots.{slot_in}
use Rattle.run_steps.specs.Equations.{NameEquation}
use Rattle.run_steps.specs.Steps.{Step, driven, equation_step}
use Rattle.run_steps.specs.Plans.{Planned, Makes}
use Rattle.run_steps.specs.declared.resolved.Resolved.{Resolved}
use Rattle.run_steps.specs.Order.{edges_from, IsEvaluationOrder, slots_read, no_equation}

-- the edges between equations, where these names have values given
abbrev pub equation_edges : List (List ℕ) → List NameEquation → List (ℕ × ℕ)
equation_edges given equations = edges_from (length given) 0 (slots_read (driven given equations) equations)

-- names resolved: those that have a value, the slot of the first equation's output, and for each equation the slots
-- that it reads
pub record IsResolved (given : List (List ℕ)) (equations : List NameEquation) (names keys : List (List ℕ)) (first : ℕ)
    (reads : List (List ℕ)) : Type 0 where
  pub names_are : names ≡ driven given equations
  pub keys_are : keys ≡ driven given equations
  pub first_is : first ≡ length given
  pub reads_are : reads ≡ slots_read (driven given equations) equations

abbrev pub AreResolved : List (List ℕ) → List NameEquation → Resolved → Type 0
AreResolved given equations r =
    IsResolved given equations (map (λ w. w.now) r.names.items) (map (λ k. k.now) r.slots.keys) r.first
    (map (λ s. s.items) r.reads.items)

-- equations in an order in which each one comes after those that it reads
abbrev pub AreOrdered : List (List ℕ) → List NameEquation → List ℕ → Type 0
AreOrdered given equations order = IsEvaluationOrder (length equations) (equation_edges given equations) order

-- the steps of equations in an order
abbrev pub ordered_steps : List (List ℕ) → List NameEquation → List ℕ → List Step
ordered_steps given equations order =
    map (λ t. equation_step (driven given equations) (slice_index_or equations t no_equation)) order

-- the plan makes the steps of the equations in an evaluation order
pub record IsSolver (given : List (List ℕ)) (equations : List NameEquation) (plan : Planned) : Type 0 where
  pub named_is : plan.named ≡ length (driven given equations)
  pub order : List ℕ
  pub ordered : AreOrdered given equations order
  pub makes : Makes plan (ordered_steps given equations order)

-- these are the slots of names that have a value
pub record AreSlots (names picked : List (List ℕ)) (slots : List ℕ) : Type 0 where
  pub are : slots ≡ map (slot_in names) picked
  pub low : All (λ slot. slot < length names) slots

-- a plan that solves equations, with the slots of the names whose values registers get, and of those that are shown
pub record IsPlanOf (given : List (List ℕ)) (equations : List NameEquation) (names sources shown : List (List ℕ))
    (plan : Planned) (from to : List ℕ) : Type 0 where
  pub solver : IsSolver given equations plan
  pub sources_are : AreSlots names sources from
  pub shown_are : AreSlots names shown to
