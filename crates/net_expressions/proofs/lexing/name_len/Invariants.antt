use Rattle.std.proofs.Common.{◌≡◌, ◌+◌, ◌≤◌, ◌-◌, length, drop}
use Rattle.std.specs.List.{prefix_len}
use Rattle.base_types.specs.Names.{is_name_byte}
use Rattle.net_expressions.proofs.lexing.name_len.Given as goal

abbrev pub invariant-bytes : goal.invariant-bytes
invariant-bytes l = record {
  within : l.len ≤ length l.text;
  same : prefix_len is_name_byte l.text ≡ l.len + prefix_len is_name_byte (drop l.len l.text);
}

abbrev pub decreases-bytes : goal.decreases-bytes
decreases-bytes l = length l.text - l.len
