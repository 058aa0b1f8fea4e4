use Rattle.std.proofs.Common.{◌≡◌, drop}
use Rattle.sat_kernel.specs.Propagation.{cleared}
use Rattle.sat_kernel.proofs.marks.clear_clause.Given as goal

abbrev pub invariant-loop-literal : goal.invariant-loop-literal
invariant-loop-literal l = cleared l.marks (drop l.literal-index l.clause) ≡ cleared l.initial.marks l.clause
