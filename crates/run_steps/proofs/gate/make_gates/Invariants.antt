use Rattle.std.proofs.Common.{◌≡◌, drop}
use Rattle.run_steps.specs.Records.{gates_made}
use Rattle.run_steps.proofs.gate.make_gates.Given as goal

abbrev pub invariant-loop-gate : goal.invariant-loop-gate
invariant-loop-gate l = gates_made (drop l.gate-index l.gates) l.values ≡ gates_made l.gates l.initial.values
