use Rattle.std.proofs.Common.{◌≡◌, ℕ, ◌-◌, ◌<◌, ◌≤◌, Bool, length}
use Rattle.grc_ternary_gates.specs.Linking.{Reads}
use Rattle.grc_ternary_gates.specs.Solving.{Fits, IsUnderway, with_readers, with_readers_below, work_of}
use Rattle.grc_ternary_gates.proofs.solver.Solver.look_at_readers.Given as goal

abbrev pub invariant-loop-rest : goal.invariant-loop-rest
invariant-loop-rest l = record {
  fits : Fits (length l.system.gates.items) l.self;
  same : work_of l.self ≡ work_of l.fn.self;
  within : l.rest ≤ length l.system.gates.items;
  reader : 0 < l.rest → Reads l.fn.side l.system.gates.items (l.rest - 1) l.fn.node;
  goes_on : (todo : ℕ → Bool)
      → IsUnderway l.system.gates.items l.sources l.fn.self (with_readers l.system.gates.items l.fn.side l.fn.node todo)
      → IsUnderway l.system.gates.items l.sources l.self (with_readers_below l.system.gates.items l.fn.side l.fn.node l.rest todo);
}

abbrev pub decreases-loop-rest : goal.decreases-loop-rest
decreases-loop-rest l = l.rest
