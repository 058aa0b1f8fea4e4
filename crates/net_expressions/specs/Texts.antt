-- To believe: the text of an expression without lists in lists, where the texts of negation and of constants are given.
use Rattle.std.specs.Prelude.{ℕ, Bool, List, [], ◌++◌, codes}
use Rattle.net_expressions.specs.Trees.{Expr, Name, Const, Not, And, Or, Exprs, NoExprs, MoreExprs}

abbrev mutual
  pub text_of : List ℕ → (Bool → List ℕ) → Expr → List ℕ
  text_of negation bit (Name name) = name
  text_of negation bit (Const value) = bit value
  text_of negation bit (Not e) = negation ++ text_of negation bit e
  text_of negation bit (And parts) = parts_text negation bit (codes " & ") parts
  text_of negation bit (Or parts) = parts_text negation bit (codes " | ") parts

  pub parts_text : List ℕ → (Bool → List ℕ) → List ℕ → Exprs → List ℕ
  parts_text negation bit mark NoExprs = []
  parts_text negation bit mark (MoreExprs e others) =
      text_of negation bit e ++ others_text negation bit mark others

  pub others_text : List ℕ → (Bool → List ℕ) → List ℕ → Exprs → List ℕ
  others_text negation bit mark NoExprs = []
  others_text negation bit mark (MoreExprs e others) =
      mark ++ (text_of negation bit e ++ others_text negation bit mark others)
