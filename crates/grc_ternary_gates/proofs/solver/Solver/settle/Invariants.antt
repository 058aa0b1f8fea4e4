use Rattle.std.proofs.Common.{◌≡◌, not, length}
use Rattle.std.specs.Prelude.{nat_lt}
use Rattle.grc_ternary_gates.specs.Solving.{Fits, IsUnderway}
use Rattle.grc_ternary_gates.proofs.solver.Solver.settle.Given as goal

abbrev pub invariant-loop-node : goal.invariant-loop-node
invariant-loop-node l = record {
  fits : Fits (length l.system.gates.items) l.self;
  empty : l.self.height ≡ 0;
  goes_on : IsUnderway l.system.gates.items l.sources l.self (λ n. not (nat_lt n l.node));
}
