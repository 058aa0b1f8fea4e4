-- To believe: literals, clauses, and what follows from clauses. A valuation gives each variable a truth value.
use Rattle.std.specs.Prelude.{ℕ, Bool, not, List, map, Option, Vec, IsTrue, if◌then◌else◌}
use Rattle.std.specs.List.{list_any, list_all}
use Rattle.std.specs.Option.{option_map}
use Rattle.std.specs.declared.alloc.Global.{Global}
use Rattle.sat_kernel.specs.declared.literals.Literal.{Literal}

-- the negation of a literal
abbrev pub opposite : Literal → Literal
opposite l = record { variable = l.variable; positive = not l.positive }

abbrev pub literal_value : (ℕ → Bool) → Literal → Bool
literal_value v l = if l.positive then v l.variable else not (v l.variable)

-- whether one of the literals is true
abbrev pub clause_value : (ℕ → Bool) → List Literal → Bool
clause_value v clause = list_any (literal_value v) clause

-- all clauses are true
abbrev pub IsModel : (ℕ → Bool) → List (List Literal) → Type 0
IsModel v clauses = IsTrue (list_all (clause_value v) clauses)

-- this clause is true wherever all of the clauses are
abbrev pub IsImplied : List (List Literal) → List Literal → Type 0
IsImplied clauses clause = (v : ℕ → Bool) → IsModel v clauses → IsTrue (clause_value v clause)

-- lists of clauses without the capacities and pointers of vectors
abbrev pub plain_assumed : List (Vec Literal Global) → List (List Literal)
plain_assumed clauses = map (λ c. c.items) clauses

abbrev pub plain_derived : List (Option (Vec Literal Global)) → List (Option (List Literal))
plain_derived clauses = map (option_map (λ c. c.items)) clauses

-- A kernel's clauses. A forgotten clause is None. Propagation assigns the variables below a number.
pub record Derivation : Type 0 where
  pub variables : ℕ
  pub assumed : List (List Literal)
  pub derived : List (Option (List Literal))
