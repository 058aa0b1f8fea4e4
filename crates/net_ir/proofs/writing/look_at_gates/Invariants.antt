use Rattle.std.proofs.Common.{◌<◌, ◌^◌, take, All}
use Rattle.std.specs.Prelude.{IfSome}
use Rattle.net_ir.proofs.writing.look_at_gates.Given as goal

abbrev pub invariant-loop-gate : goal.invariant-loop-gate
invariant-loop-gate l = All (λ g. IfSome g.wire (λ w. w.0 < 2 ^ 32)) (take l.gate-index l.gates)
