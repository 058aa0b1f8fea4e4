-- To believe: guarded programs as plain trees, without where they lie in memory.
use Rattle.std.specs.Prelude.{ℕ, List}
use Rattle.csub_text.specs.Trees.{StateVariable, Assign, Expr}

-- what is in the body of a guarded program: an assignment, or a block, whose first assignments are run where the
-- local of its test is 1, and whose second ones are run where it is 0
pub data Piece : Type 0 where
  One : (assign : Assign) → Piece
  If : (test : List ℕ) (first second : List Assign) → Piece

-- the variables in the order of their declarations, the body, and the expression returned
pub record Program : Type 0 where
  pub states : List StateVariable
  pub globals : List (List ℕ)
  pub locals : List (List ℕ)
  pub body : List Piece
  pub answer : Expr
