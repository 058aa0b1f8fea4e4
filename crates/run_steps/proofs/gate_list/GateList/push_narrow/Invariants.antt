use Rattle.std.proofs.Common.{◌≡◌, ◌++◌, map, take}
use Rattle.run_steps.specs.Records.{widened}
use Rattle.run_steps.proofs.gate_list.GateList.push_narrow.Given as goal

abbrev pub invariant-loop-gate : goal.invariant-loop-gate
invariant-loop-gate l = l.self ≡ l.fn.self ++ map widened (take l.gate-index l.gates)
