use Rattle.std.proofs.Common.{take, length, ◌+◌}
use Rattle.cec_opt_commands.proofs.DepthLaws.{DepthsSoFar}
use Rattle.cec_opt_commands.proofs.depths.net_depths.Given as goal

-- the depths up to the gates so far
abbrev pub invariant-loop-gate : goal.invariant-loop-gate
invariant-loop-gate l =
    DepthsSoFar (length l.net.inputs.items + length l.net.latches.items) (take l.gate-index l.net.gates.items) l.depths.items
