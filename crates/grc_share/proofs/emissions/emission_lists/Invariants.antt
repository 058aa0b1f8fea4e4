use Rattle.std.proofs.Common.{◌≡◌, ℕ, ◌<◌, [], length, map, get_or, take}
use Rattle.std.specs.Prelude.{All, filter}
use Rattle.est_kernel.specs.Plain.{program_of}
use Rattle.grc_graph.specs.GraphRuns.{program_spots}
use Rattle.grc_graph.specs.PlainGraphs.{wire_at}
use Rattle.grc_share.specs.Renamings.{values}
use Rattle.grc_share.specs.SharedGraphs.{emits_on, go_value}
use Rattle.grc_share.specs.SharedInstances.{body_sharing}
use Rattle.grc_share.specs.SharedWires.{shared_wires}
use Rattle.grc_share.proofs.emissions.emission_lists.Given as goal

-- the emissions of the instances so far
abbrev pub invariant-loop-i : goal.invariant-loop-i
invariant-loop-i l = record {
  each : length l.lists.items ≡ l.count;
  within : (k : ℕ) → k < l.count
      → All (λ w. w.0 < length (shared_wires (program_of l.graph.program))) (get_or (map (λ v. v.items) l.lists.items) k []);
  so_far : (k : ℕ) → k < l.count
      → values (shared_wires (program_of l.graph.program)) (get_or (map (λ v. v.items) l.lists.items) k [])
      ≡ map go_value (filter (emits_on (body_sharing (program_of l.graph.program).body) (wire_at (shared_wires (program_of l.graph.program)) k))
      (take l.i (program_spots (program_of l.graph.program))));
}
