-- To believe: equations, each of which gives a name its value in an instant from those of the names that it reads, and
-- their combinational cycles.
use Rattle.std.specs.Prelude.{◌≡◌, ℕ, ◌+◌, ◌-◌, ◌<◌, Bool, List, [], length, slice_index_or, Contains}

pub record NameEquation : Type 0 where
  pub output : List ℕ
  pub reads : List (List ℕ)
  pub value : (List ℕ → Bool) → Bool

-- an equation that gives a name its value reads the other one in the same instant
pub record NeedsName (equations : List NameEquation) (name other : List ℕ) : Type 0 where
  pub equation : NameEquation
  pub stands : Contains equations equation
  pub drives : equation.output ≡ name
  pub reads : Contains equation.reads other

abbrev pub name_at : List (List ℕ) → ℕ → List ℕ
name_at names k = slice_index_or names k []

-- A combinational cycle: the equation of each name reads the next one, and that of the last name the first one.
pub record IsEquationLoop (equations : List NameEquation) (names : List (List ℕ)) : Type 0 where
  pub some_name : 0 < length names
  pub steps : (k : ℕ) → k + 1 < length names → NeedsName equations (name_at names k) (name_at names (k + 1))
  pub closes : NeedsName equations (name_at names (length names - 1)) (name_at names 0)

abbrev pub HasNoEquationLoop : List NameEquation → Type 0
HasNoEquationLoop equations = (names : List (List ℕ)) → ¬ IsEquationLoop equations names
