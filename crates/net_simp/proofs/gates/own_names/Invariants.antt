use Rattle.std.proofs.Common.{◌≡◌, length}
use Rattle.net_simp.specs.Renaming.{OwnNames}
use Rattle.net_simp.proofs.gates.own_names.Given as goal

abbrev pub invariant-loop-net : goal.invariant-loop-net
invariant-loop-net l = record {
  count : length l.names.items ≡ l.net;
  own : OwnNames l.names.items;
}
