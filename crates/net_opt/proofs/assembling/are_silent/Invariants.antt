use Rattle.std.proofs.Common.{◌≡◌, ℕ, ◌<◌, slice_index_or, None}
use Rattle.net_ir.specs.declared.netlist.Gate.{Gate}
use Rattle.net_opt.proofs.assembling.are_silent.Given as goal

abbrev pub invariant-loop-gate : goal.invariant-loop-gate
invariant-loop-gate l = (k : ℕ) (d : Gate) → k < l.gate-index → (slice_index_or l.gates k d).wire ≡ None
