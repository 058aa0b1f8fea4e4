use Rattle.std.proofs.Common.{◌≡◌, ℕ, ◌<◌, true}
use Rattle.std.specs.Prelude.{slice_index_or}
use Rattle.grc_graph.specs.declared.wires.Wire.{Wire}
use Rattle.grc_formulas.specs.WordLaws.{is_end_upto}
use Rattle.grc_ternary_run.proofs.chains.count_ends.Given as goal

abbrev pub invariant-loop-count : goal.invariant-loop-count
invariant-loop-count l = (k : ℕ) (d : Wire) → k < l.count → is_end_upto l.instance.0 l.code (slice_index_or l.wires k d) ≡ true
