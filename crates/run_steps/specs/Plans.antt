-- Inner: plans, and which steps they make. A plan is a list of lookups in truth tables. The first slots are those of
-- names, and the others are for what stands inside of expressions.
use Rattle.std.specs.Prelude.{◌≡◌, ℕ, ◌+◌, ◌*◌, ◌/◌, ◌%◌, ◌<◌, ◌≤◌, ◌==◌, zero, suc, Bool, true, false, ◌&&◌, ◌||◌}
use Rattle.std.specs.Prelude.{List, [], ◌∷◌, ◌++◌, All, length, map, take, slice_set, if◌then◌else◌}
use Rattle.run_steps.specs.declared.term.Term.{Term}
use Rattle.run_steps.specs.declared.term.Junction.{Junction}
use Rattle.run_steps.specs.declared.term.Junction.TheVariants.{And, Or}
use Rattle.run_steps.specs.Slots.{value_at}
use Rattle.run_steps.specs.Steps.{Step, settled}

-- the number that has these binary digits, the lowest first
abbrev pub number_of : List Bool → ℕ
number_of [] = 0
number_of (v ∷ vs) = (if v then 1 else 0) + 2 * number_of vs

-- the lowest binary digits of a number, the lowest first
abbrev pub digits : ℕ → ℕ → List Bool
digits zero n = []
digits (suc count) n = (n % 2 == 1) ∷ digits count (n / 2)

-- the element of a truth table whose place has the values of the slots that are read as its digits
abbrev pub looked_up : List ℕ → List Bool → List Bool → Bool
looked_up reads truth values = value_at truth (number_of (map (value_at values) reads))

-- a lookup gives its output the element that is looked up
pub record Lookup : Type 0 where
  pub output : ℕ
  pub reads : List ℕ
  pub truth : List Bool

-- a plan: how many slots have names, the first slot after them that is free, how many slots there are, the lookups,
-- and how many of them are no gates
pub record Planned : Type 0 where
  pub named : ℕ
  pub free : ℕ
  pub slots : ℕ
  pub lookups : List Lookup
  pub tables : ℕ

-- gates: how many slots there are, and their lookups
pub record Listed : Type 0 where
  pub slots : ℕ
  pub lookups : List Lookup

-- the values after a lookup
abbrev pub lookup_made : Lookup → List Bool → List Bool
lookup_made l values = slice_set values l.output (looked_up l.reads l.truth values)

-- the values after some lookups
abbrev pub made : List Lookup → List Bool → List Bool
made [] values = values
made (l ∷ lookups) values = made lookups (lookup_made l values)

-- ---- the plan makes the steps

-- The plan makes the steps: after its lookups the slots of the names have the values that the steps give them, one
-- after another.
pub record Makes (plan : Planned) (steps : List Step) : Type 0 where
  pub made_is : (values : List Bool) → plan.slots ≤ length values
      → take plan.named (made plan.lookups values) ≡ settled steps (take plan.named values)

-- one step more
pub record Adds (step : Step) (old new : Planned) : Type 0 where
  pub named : new.named ≡ old.named
  pub makes : (steps : List Step) → Makes old steps → Makes new (steps ++ step ∷ [])

-- the step of a table over these slots
abbrev pub table_step : ℕ → List ℕ → List Bool → Step
table_step output reads truth = record { output = output; value = looked_up reads truth }

-- ---- terms

-- the value of a term, by those of its slots
abbrev pub chosen : Term → Bool → Bool → Bool
chosen t false false = t.neither
chosen t true false = t.first
chosen t false true = t.second
chosen t true true = t.both

abbrev pub term_value : Term → List Bool → Bool
term_value t values = chosen t (value_at values t.left) (value_at values t.right)

-- a term reads slots below
pub record TermFits (free : ℕ) (t : Term) : Type 0 where
  pub left_low : t.left < free
  pub right_low : t.right < free

-- after the plan's lookups the term has the value that the function gives to those of the names
pub record Says (plan : Planned) (t : Term) (value : List Bool → Bool) : Type 0 where
  pub fits : TermFits plan.free t
  pub says : (values : List Bool) → plan.slots ≤ length values
      → term_value t (made plan.lookups values) ≡ value (take plan.named (made plan.lookups values))

-- lookups are added that change no name and no term
pub record KeepsTerms (old new : Planned) : Type 0 where
  pub named : new.named ≡ old.named
  pub free : old.free ≤ new.free
  pub tables : new.tables ≡ old.tables
  pub makes : (steps : List Step) → Makes old steps → Makes new steps
  pub says : (t : Term) (value : List Bool → Bool) → Says old t value → Says new t value

-- the plan is given a term with these values, and what is kept
pub record Compiles (value : List Bool → Bool) (old : Planned) (t : Term) (new : Planned) : Type 0 where
  pub keeps : KeepsTerms old new
  pub says : Says new t value

-- one step more, whose value is what a term says
pub record AddsTerm (output : ℕ) (t : Term) (old new : Planned) : Type 0 where
  pub tables : new.tables ≡ old.tables
  pub adds : (value : List Bool → Bool) → Says old t value → Adds (record { output = output; value = value }) old new

abbrev pub joined : Junction → Bool → Bool → Bool
joined And a b = a && b
joined Or a b = a || b

-- a term of two others, and what is kept
pub record Joins (junction : Junction) (left right : Term) (old : Planned) (t : Term) (new : Planned) : Type 0 where
  pub keeps : KeepsTerms old new
  pub says : (a b : List Bool → Bool) → Says old left a → Says old right b
      → Says new t (λ values. joined junction (a values) (b values))

-- a term as one of a single slot
pub record IsOperand (term : Term) (old : Planned) (t : Term) (new : Planned) : Type 0 where
  pub keeps : KeepsTerms old new
  pub one_slot : t.left ≡ t.right
  pub fits : TermFits new.free t
  pub says : (value : List Bool → Bool) → Says old term value → Says new t value

-- ---- tables of few slots as terms

-- a term over these two slots with the values of a table
pub record Tabulates (left right : ℕ) (reads : List ℕ) (truth : List Bool) (t : Term) : Type 0 where
  pub left_is : t.left ≡ left
  pub right_is : t.right ≡ right
  pub value_is : (values : List Bool) → term_value t values ≡ looked_up reads truth values

-- a term with the values of a table, over the slots that it reads, or that of its output
pub record IsTable (output : ℕ) (reads : List ℕ) (truth : List Bool) (t : Term) : Type 0 where
  pub fits : (bound : ℕ) → output < bound → All (λ slot. slot < bound) reads → TermFits bound t
  pub value_is : (values : List Bool) → term_value t values ≡ looked_up reads truth values
