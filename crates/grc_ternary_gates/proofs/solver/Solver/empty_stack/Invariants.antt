use Rattle.std.proofs.Common.{ℕ, Bool, length}
use Rattle.grc_ternary_gates.specs.Solving.{Fits, IsUnderway, work_of}
use Rattle.grc_ternary_gates.proofs.solver.Solver.empty_stack.Given as goal

abbrev pub invariant-loop-self : goal.invariant-loop-self
invariant-loop-self l = record {
  fits : Fits (length l.system.gates.items) l.self;
  goes_on : (todo : ℕ → Bool) → IsUnderway l.system.gates.items l.sources l.fn.self todo
      → IsUnderway l.system.gates.items l.sources l.self todo;
}

abbrev pub decreases-loop-self : goal.decreases-loop-self
decreases-loop-self l = work_of l.self
