use Rattle.std.proofs.Common.{◌≡◌, take}
use Rattle.net_cycles.proofs.packing.copied_latches.Given as goal

abbrev pub invariant-loop-latch : goal.invariant-loop-latch
invariant-loop-latch l = l.copy.items ≡ take l.latch-index l.latches
