use Rattle.std.proofs.Common.{◌≡◌, ◌++◌}
use Rattle.net_state_enc.specs.Recodings.{numbers_from}
use Rattle.net_state_enc.proofs.netlist.push_numbers.Given as goal

abbrev pub invariant-loop-k : goal.invariant-loop-k
invariant-loop-k l = l.names.items ≡ l.initial.names.items ++ numbers_from l.from l.k
