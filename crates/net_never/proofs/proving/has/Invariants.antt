use Rattle.std.proofs.Common.{◌≡◌, drop}
use Rattle.std.specs.List.{list_any}
use Rattle.sat_kernel.specs.Propagation.{is_same}
use Rattle.net_never.proofs.proving.has.Given as goal

abbrev pub invariant-loop-literal : goal.invariant-loop-literal
invariant-loop-literal l = list_any (is_same l.wanted) (drop l.literal-index l.clause) ≡ list_any (is_same l.wanted) l.clause
