use Rattle.std.proofs.Common.{◌≡◌, ℕ, ◌<◌, length, get_or}
use Rattle.est_kernel.specs.Plain.{program_of}
use Rattle.grc_graph.specs.declared.formulas.Formula.{Formula}
use Rattle.grc_graph.specs.PlainGraphs.{wire_at}
use Rattle.grc_share.specs.Renamings.{StandsIn, formula_in}
use Rattle.grc_share.specs.SharedWires.{shared_wires}
use Rattle.grc_share.proofs.equations.shared_equations.Given as goal

-- those of the wires so far
abbrev pub invariant-loop-k : goal.invariant-loop-k
invariant-loop-k l = record {
  each : length l.formulas.items ≡ l.k;
  stand : (k : ℕ) (d : Formula) → k < length l.formulas.items
      → StandsIn (program_of l.graph.program) (formula_in (program_of l.graph.program) (wire_at (shared_wires (program_of l.graph.program)) k))
      (get_or l.formulas.items k d);
}
