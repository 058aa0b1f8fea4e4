-- Inner: the values of expressions where the slots of the names have these values.
use Rattle.std.specs.Prelude.{ℕ, Bool, List, map}
use Rattle.std.specs.List.{list_all, list_any}
use Rattle.run_steps.specs.Slots.{slot_in, memory_in}
use Rattle.run_steps.specs.Steps.{Step}
use Rattle.run_steps.specs.declared.term.Junction.{Junction}
use Rattle.run_steps.specs.declared.term.Junction.TheVariants.{And, Or}
use Rattle.net_expressions.specs.Trees.{Expr}
use Rattle.net_expressions.specs.Values.{value_of}
use Rattle.net_expressions.specs.Views.{expr_of}
use Rattle.net_expressions.specs.declared.trees.Expr.{Expr as CodeExpr}

-- closed, so that a proof sees one row at a time
unfoldable pub expr_value : List (List ℕ) → CodeExpr → List Bool → Bool
expr_value names e values = value_of (memory_in names values) (expr_of e)

abbrev pub joined_all : Junction → List Bool → Bool
joined_all And values = list_all (λ v. v) values
joined_all Or values = list_any (λ v. v) values

-- the value of expressions that are joined
abbrev pub parts_value : List (List ℕ) → Junction → List CodeExpr → List Bool → Bool
parts_value names junction parts values = joined_all junction (map (λ e. expr_value names e values) parts)

-- the step that gives a name the value of an expression
abbrev pub expr_step : List (List ℕ) → List ℕ → Expr → Step
expr_step names target value = record {
  output = slot_in names target;
  value = λ values. value_of (memory_in names values) value;
}
