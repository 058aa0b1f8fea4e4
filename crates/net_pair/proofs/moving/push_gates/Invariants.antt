use Rattle.std.proofs.Common.{◌≡◌, ◌++◌, drop, map}
use Rattle.net_pair.specs.Layout.{moved, moved_gate}
use Rattle.net_pair.proofs.moving.push_gates.Given as goal

abbrev pub invariant-loop-gate : goal.invariant-loop-gate
invariant-loop-gate l =
    l.gates.items ++ map (moved_gate (moved l.shift)) (drop l.gate-index l.own) ≡ l.initial.gates.items ++ map (moved_gate (moved l.shift)) l.own
