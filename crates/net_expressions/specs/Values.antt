-- To believe: the value of an expression, where each name has one.
use Rattle.std.specs.Prelude.{ℕ, Bool, true, false, not, ◌&&◌, ◌||◌, List}
use Rattle.net_expressions.specs.Trees.{Expr, Name, Const, Not, And, Or, Exprs, NoExprs, MoreExprs}

abbrev mutual
  pub value_of : (List ℕ → Bool) → Expr → Bool
  value_of values (Name name) = values name
  value_of values (Const value) = value
  value_of values (Not e) = not (value_of values e)
  value_of values (And parts) = all_of values parts
  value_of values (Or parts) = any_of values parts

  pub all_of : (List ℕ → Bool) → Exprs → Bool
  all_of values NoExprs = true
  all_of values (MoreExprs e others) = value_of values e && all_of values others

  pub any_of : (List ℕ → Bool) → Exprs → Bool
  any_of values NoExprs = false
  any_of values (MoreExprs e others) = value_of values e || any_of values others
