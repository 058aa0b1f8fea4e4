-- To believe: programs of the C subset as plain trees, without where they lie in memory.
use Rattle.std.specs.Prelude.{ℕ, Bool, List}
pub use Rattle.net_expressions.specs.Trees.{Expr, Name, Const, Not, And, Or, Exprs, NoExprs, MoreExprs}

-- a state: a variable that keeps its value from call to call, and its value before the first one
pub record StateVariable : Type 0 where
  pub name : List ℕ
  pub init : Bool

pub record Assign : Type 0 where
  pub target : List ℕ
  pub value : Expr

-- the variables in the order of their declarations, the assignments in their order, and the expression returned
pub record Program : Type 0 where
  pub states : List StateVariable
  pub globals : List (List ℕ)
  pub locals : List (List ℕ)
  pub body : List Assign
  pub answer : Expr
