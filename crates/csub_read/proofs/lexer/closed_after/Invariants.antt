use Rattle.std.proofs.Common.{◌≡◌, ◌≤◌, ◌-◌, length, drop}
use Rattle.csub_text.specs.Tokens.{closed_after}
use Rattle.csub_read.specs.Tokens.{more_by}
use Rattle.csub_read.proofs.lexer.closed_after.Given as goal

abbrev pub invariant-places : goal.invariant-places
invariant-places l = record {
  within : l.at ≤ length l.text;
  same : closed_after l.text ≡ more_by l.at (closed_after (drop l.at l.text));
}

abbrev pub decreases-places : goal.decreases-places
decreases-places l = length l.text - l.at
