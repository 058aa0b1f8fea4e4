use Rattle.std.proofs.Common.{◌≡◌, map, take}
use Rattle.net_opt.specs.Silencing.{silent_gate}
use Rattle.net_opt.proofs.silencing.silent_gates.Given as goal

abbrev pub invariant-loop-gate : goal.invariant-loop-gate
invariant-loop-gate l = l.silent.items ≡ map silent_gate (take l.gate-index l.gates)
