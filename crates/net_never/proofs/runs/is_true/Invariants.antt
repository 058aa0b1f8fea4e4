use Rattle.std.proofs.Common.{◌≡◌, drop}
use Rattle.net_ir.specs.Gates.{value_in}
use Rattle.sat_kernel.specs.Clauses.{clause_value}
use Rattle.net_never.proofs.runs.is_true.Given as goal

abbrev pub invariant-loop-literal : goal.invariant-loop-literal
invariant-loop-literal l = clause_value (value_in l.values) (drop l.literal-index l.clause) ≡ clause_value (value_in l.values) l.clause
