use Rattle.std.proofs.Common.{◌≡◌, ℕ, ◌+◌, ◌<◌, slice_index_or}
use Rattle.net_ir.specs.declared.netlist.Gate.{Gate}
use Rattle.net_ir.specs.Gates.{op_value, value_in}
use Rattle.net_ir.proofs.netlist.equations_hold.Given as goal

-- the equations of the gates before this one hold
abbrev pub invariant-loop-k : goal.invariant-loop-k
invariant-loop-k l =
    (j : ℕ) (d : Gate) → j < l.k → value_in l.values (l.first + j) ≡ op_value (value_in l.values) (slice_index_or l.gates j d).op
