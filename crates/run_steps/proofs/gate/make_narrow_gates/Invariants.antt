use Rattle.std.proofs.Common.{◌≡◌, map, drop}
use Rattle.run_steps.specs.Records.{gates_made, widened}
use Rattle.run_steps.proofs.gate.make_narrow_gates.Given as goal

abbrev pub invariant-loop-gate : goal.invariant-loop-gate
invariant-loop-gate l = gates_made (map widened (drop l.gate-index l.gates)) l.values ≡ gates_made (map widened l.gates) l.initial.values
