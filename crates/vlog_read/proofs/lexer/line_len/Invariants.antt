use Rattle.std.proofs.Common.{◌≡◌, ◌+◌, ◌≤◌, ◌-◌, length, drop}
use Rattle.std.specs.List.{prefix_len}
use Rattle.vlog_text.specs.Tokens.{stays_in_line}
use Rattle.vlog_read.proofs.lexer.line_len.Given as goal

abbrev pub invariant-bytes : goal.invariant-bytes
invariant-bytes l = record {
  within : l.len ≤ length l.text;
  same : prefix_len stays_in_line l.text ≡ l.len + prefix_len stays_in_line (drop l.len l.text);
}

abbrev pub decreases-bytes : goal.decreases-bytes
decreases-bytes l = length l.text - l.len
