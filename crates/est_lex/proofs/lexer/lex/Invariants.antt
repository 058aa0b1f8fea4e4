use Rattle.std.proofs.Common.{◌-◌, ◌≤◌, length}
use Rattle.est_lex.proofs.Cuts.{IsCutTo}
use Rattle.est_lex.proofs.lexer.lex.Given as goal

abbrev pub invariant-loop-at : goal.invariant-loop-at
invariant-loop-at l = record { within : l.at ≤ length l.text; cut : IsCutTo l.text l.at l.tokens.items }

abbrev pub decreases-loop-at : goal.decreases-loop-at
decreases-loop-at l = length l.text - l.at
