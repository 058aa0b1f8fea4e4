use Rattle.std.proofs.Common.{◌≡◌, drop, false}
use Rattle.run_trace_io.specs.Tokens.{tokens}
use Rattle.run_trace_io.proofs.scan.next_token.Given as goal

-- the tokens from here on are those from the beginning on
abbrev pub invariant-loop-at : goal.invariant-loop-at
invariant-loop-at l = tokens false l.from (drop l.from l.text) ≡ tokens l.in_comment l.at (drop l.at l.text)
