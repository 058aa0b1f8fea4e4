-- To believe: the expression of a net's operator, where each net has a name.
use Rattle.std.specs.Prelude.{ℕ, List}
use Rattle.net_ir.specs.declared.netlist.Op.{Op}
use Rattle.net_ir.specs.declared.netlist.Op.TheVariants as ops
use Rattle.net_expressions.specs.Trees.{Expr, Name, Const, Not, And, Or, Exprs, NoExprs, MoreExprs}

abbrev pub pair : List ℕ → List ℕ → Exprs
pair m n = MoreExprs (Name m) (MoreExprs (Name n) NoExprs)

abbrev pub op_expr : (ℕ → List ℕ) → Op → Expr
op_expr word (ops.Const value) = Const value
op_expr word (ops.Copy n) = Name (word n.0)
op_expr word (ops.Not n) = Not (Name (word n.0))
op_expr word (ops.And m n) = And (pair (word m.0) (word n.0))
op_expr word (ops.Or m n) = Or (pair (word m.0) (word n.0))
