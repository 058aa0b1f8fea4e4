use Rattle.std.proofs.Common.{◌≡◌, ◌++◌, take}
use Rattle.run_steps.proofs.gate_list.GateList.push_wide.Given as goal

abbrev pub invariant-loop-gate : goal.invariant-loop-gate
invariant-loop-gate l = l.self ≡ l.fn.self ++ take l.gate-index l.gates
