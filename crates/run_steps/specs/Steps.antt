-- Inner: steps, each of which gives one slot a value that is a function of the values of all, and what they solve.
use Rattle.std.specs.Prelude.{◌≡◌, ℕ, Bool, true, List, [], ◌∷◌, ◌++◌, map, slice_set, Contains}
use Rattle.std.specs.List.{AllByRecursion}
use Rattle.base_types.specs.Distinct.{all_differ}
use Rattle.base_types.specs.Names.{is_same_name}
use Rattle.net_ir.specs.NameLists.{is_among}
use Rattle.run_steps.specs.Slots.{slot_in, memory_in}
use Rattle.run_steps.specs.Equations.{NameEquation}

pub record Step : Type 0 where
  pub output : ℕ
  pub value : List Bool → Bool

-- the values after a step
abbrev pub step_made : Step → List Bool → List Bool
step_made s values = slice_set values s.output (s.value values)

-- the values after some steps
abbrev pub settled : List Step → List Bool → List Bool
settled [] values = values
settled (s ∷ steps) values = settled steps (step_made s values)

-- ---- equations

-- the names that have a value: those that are given, and those of the equations
abbrev pub driven : List (List ℕ) → List NameEquation → List (List ℕ)
driven given equations = given ++ map (λ e. e.output) equations

-- the step of an equation, where each of these names has its place as its slot
abbrev pub equation_step : List (List ℕ) → NameEquation → Step
equation_step names e = record { output = slot_in names e.output; value = λ values. e.value (memory_in names values) }

-- valuations that agree on what an equation reads give it the same value
abbrev pub IsLocal : NameEquation → Type 0
IsLocal e = (u v : List ℕ → Bool) → ((x : List ℕ) → Contains e.reads x → u x ≡ v x) → e.value u ≡ e.value v

-- each name has one value given or one equation, and each equation depends on names that have a value
pub record AreSound (given : List (List ℕ)) (equations : List NameEquation) : Type 0 where
  pub differ : all_differ is_same_name (driven given equations) ≡ true
  pub reads_driven : AllByRecursion
      (λ e. AllByRecursion (λ x. is_among x (driven given equations) ≡ true) e.reads) equations
  pub local : AllByRecursion IsLocal equations

-- After the steps the names that are given have these values and every equation holds, and no other valuation does so
-- much.
pub record AreSolved (given : List (List ℕ)) (equations : List NameEquation) (values : List Bool) (v : List ℕ → Bool)
    : Type 0 where
  pub kept : map v given ≡ values
  pub met : AllByRecursion (λ e. v e.output ≡ e.value v) equations
  pub only : (u : List ℕ → Bool) → map u given ≡ values → AllByRecursion (λ e. u e.output ≡ e.value u) equations
      → map u (driven given equations) ≡ map v (driven given equations)
