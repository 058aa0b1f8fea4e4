-- Worked lists of parts, by hand, of source trees and of flat ones.
use Rattle.std.proofs.Common.{◌≡◌, [], ◌∷◌, refl}
use Rattle.base_types.specs.declared.place.Span.{Span}
use Rattle.est_ast.specs.Trees as trees
use Rattle.est_ast.specs.FlatTrees as flat

abbrev at : Span
at = record { start = 0; end = 1 }

abbrev one : trees.Expr
one = trees.Tick at

abbrev two : trees.Expr
two = trees.Not one

abbrev pause : trees.Stmt
pause = trees.At at trees.Pause

abbrev halt : trees.Stmt
halt = trees.At at trees.Halt

of_expressions : trees.exprs (one ∷ two ∷ []) ≡ trees.MoreExprs one (trees.MoreExprs two trees.NoExprs)
of_expressions = refl

of_statements : trees.stmts (pause ∷ halt ∷ []) ≡ trees.MoreStmts pause (trees.MoreStmts halt trees.NoStmts)
of_statements = refl

of_cases : trees.cases ((one, trees.Missing) ∷ (two, trees.Written halt) ∷ [])
    ≡ trees.MoreCases one trees.Missing (trees.MoreCases two (trees.Written halt) trees.NoCases)
of_cases = refl

abbrev flat_one : flat.Expr
flat_one = flat.Tick at

abbrev flat_two : flat.Expr
flat_two = flat.Not flat_one

abbrev flat_pause : flat.Stmt
flat_pause = flat.At at flat.Pause

abbrev flat_halt : flat.Stmt
flat_halt = flat.At at flat.Halt

of_flat_expressions : flat.exprs (flat_one ∷ flat_two ∷ []) ≡ flat.MoreExprs flat_one (flat.MoreExprs flat_two flat.NoExprs)
of_flat_expressions = refl

of_flat_statements : flat.stmts (flat_pause ∷ flat_halt ∷ []) ≡ flat.MoreStmts flat_pause (flat.MoreStmts flat_halt flat.NoStmts)
of_flat_statements = refl

of_flat_cases : flat.cases ((flat_one, flat.Missing) ∷ (flat_two, flat.Written flat_halt) ∷ [])
    ≡ flat.MoreCases flat_one flat.Missing (flat.MoreCases flat_two (flat.Written flat_halt) flat.NoCases)
of_flat_cases = refl
