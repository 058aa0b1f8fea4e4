use Rattle.std.proofs.Common.{ℕ, ◌<◌, slice_index_or}
use Rattle.net_ir.specs.declared.netlist.Latch.{Latch}
use Rattle.net_opt.proofs.assembling.latches_are_below.Given as goal

abbrev pub invariant-loop-latch : goal.invariant-loop-latch
invariant-loop-latch l = (k : ℕ) (d : Latch) → k < l.latch-index → (slice_index_or l.latches k d).from.0 < l.count
