use Rattle.std.proofs.Common.{◌≡◌, ℕ, ◌<◌, false}
use Rattle.base_types.specs.CodeSet.{members}
use Rattle.grc_graph.proofs.code_tables.has_some_code.Given as goal

abbrev pub invariant-loop-code : goal.invariant-loop-code
invariant-loop-code l = (j : ℕ) → j < l.code → members l.set j ≡ false
