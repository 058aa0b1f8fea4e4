-- Contract: the plain form of an expression.
use Rattle.net_expressions.specs.declared.trees.Expr.{Expr as CodeExpr, Row_of-Expr, end_of-Expr, more_of-Expr}
use Rattle.net_expressions.specs.declared.trees.Expr.TheVariants as exprs
use Rattle.net_expressions.specs.Trees.{Expr, Name, Const, Not, And, Or, Exprs, NoExprs, MoreExprs}

abbrev mutual
  pub expr_of : CodeExpr → Expr
  expr_of (exprs.Name name) = Name name
  expr_of (exprs.Const value) = Const value
  expr_of (exprs.Not' _ e) = Not (expr_of e)
  expr_of (exprs.And' _ row) = And (exprs_of row)
  expr_of (exprs.Or' _ row) = Or (exprs_of row)

  pub exprs_of : {n : _} → Row_of-Expr n → Exprs
  exprs_of end_of-Expr = NoExprs
  exprs_of (more_of-Expr e row) = MoreExprs (expr_of e) (exprs_of row)
