-- To believe: the names in an expression, and the first of two names that there is.
use Rattle.std.specs.Prelude.{ℕ, List, [], ◌∷◌, ◌++◌, Option, Some, None}
use Rattle.net_expressions.specs.Trees.{Expr, Name, Const, Not, And, Or, Exprs, NoExprs, MoreExprs}

-- the names in an expression, from the left
abbrev mutual
  pub names_in : Expr → List (List ℕ)
  names_in (Name name) = name ∷ []
  names_in (Const value) = []
  names_in (Not e) = names_in e
  names_in (And parts) = all_names parts
  names_in (Or parts) = all_names parts

  pub all_names : Exprs → List (List ℕ)
  all_names NoExprs = []
  all_names (MoreExprs e others) = names_in e ++ all_names others

-- the first of two, if there is one
abbrev pub or_else : Option (List ℕ) → Option (List ℕ) → Option (List ℕ)
or_else None other = other
or_else (Some name) other = Some name
