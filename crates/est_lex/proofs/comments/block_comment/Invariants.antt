use Rattle.std.proofs.Common.{ℕ, ◌<◌, ◌≤◌}
use Rattle.est_ast.specs.Lexemes.{ClosesComment}
use Rattle.est_lex.proofs.comments.block_comment.Given as goal

abbrev pub invariant-loop-close : goal.invariant-loop-close
invariant-loop-close l = (k : ℕ) → 2 ≤ k → k < l.close → ¬ ClosesComment l.text k
