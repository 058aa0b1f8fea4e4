use Rattle.std.proofs.Common.{ℕ, ◌<◌, get_or}
use Rattle.est_ast.specs.Lexemes.{IsDigit}
use Rattle.est_lex.proofs.numerals.digits_len.Given as goal

abbrev pub invariant-loop-at : goal.invariant-loop-at
invariant-loop-at l = (k : ℕ) → k < l.at → IsDigit (get_or l.text k 0)
