use Rattle.std.proofs.Common.{◌≡◌, ℕ, ◌≤◌}
use Rattle.base_types.specs.CodeSet.{members}
use Rattle.grc_graph.proofs.code_tables.codes_end.Given as goal

-- the codes that were not passed are left
abbrev pub invariant-loop-code : goal.invariant-loop-code
invariant-loop-code l = (k : ℕ) → l.code ≤ k → members l.rest k ≡ members l.fn.set k
