use Rattle.std.proofs.Common.{◌≡◌, take}
use Rattle.net_cycles.proofs.packing.copied_gates.Given as goal

abbrev pub invariant-loop-gate : goal.invariant-loop-gate
invariant-loop-gate l = l.copy.items ≡ take l.gate-index l.gates
