use Rattle.std.proofs.Common.{◌≡◌, length, map, take}
use Rattle.std.specs.Prelude.{All, IsTrue}
use Rattle.est_kernel.specs.Plain.{program_of}
use Rattle.grc_graph.specs.GraphRuns.{graph_of}
use Rattle.grc_graph.specs.GraphShapes.{formula_fits}
use Rattle.grc_graph.specs.PlainGraphs.{formula_of}
use Rattle.grc_share.specs.Renamings.{named_starts}
use Rattle.grc_share.specs.SharedGraphs.{shared_instances}
use Rattle.grc_share.specs.SharedInstances.{body_sharing}
use Rattle.grc_share.specs.SharedWires.{shared_wires}
use Rattle.grc_share.proofs.next.next_formulas.Given as goal

-- those of the leaves so far
abbrev pub invariant-loop-formula : goal.invariant-loop-formula
invariant-loop-formula l = record {
  same : map (formula_of (shared_instances (program_of l.graph.program)) (shared_wires (program_of l.graph.program))) l.list.items
      ≡ map (named_starts (body_sharing (program_of l.graph.program).body)) (take l.formula-index (graph_of (program_of l.graph.program)).next);
  fit : All (λ f. IsTrue (formula_fits (length (shared_instances (program_of l.graph.program))) (length (shared_wires (program_of l.graph.program))) f))
      l.list.items;
}
