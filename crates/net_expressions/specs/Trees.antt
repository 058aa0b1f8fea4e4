-- To believe: expressions as plain trees, without where they lie in memory.
use Rattle.std.specs.Prelude.{ℕ, Bool, List}

mutual
  -- an expression; `And` and `Or` have two parts or more
  pub data Expr : Type 0 where
    Name : (name : List ℕ) → Expr
    Const : (value : Bool) → Expr
    Not : (e : Expr) → Expr
    And : (parts : Exprs) → Expr
    Or : (parts : Exprs) → Expr

  pub data Exprs : Type 0 where
    NoExprs : Exprs
    MoreExprs : (e : Expr) (others : Exprs) → Exprs
