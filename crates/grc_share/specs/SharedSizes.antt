-- To believe: what is counted of the graph of a program's shared wires: these wires, and the live test nodes of its
-- shared instances, a test once for each.
use Rattle.std.specs.Prelude.{ℕ, ◌+◌, length, filter, sum_by}
use Rattle.est_kernel.specs.Plain.{Program}
use Rattle.grc_graph.specs.GraphRuns.{program_spots}
use Rattle.grc_graph.specs.GraphSizes.{live_tests}
use Rattle.grc_graph.specs.Layers.{same_layer}
use Rattle.grc_share.specs.SharedInstances.{body_sharing}
use Rattle.grc_share.specs.SharedWires.{shared_layer, shared_wires}

-- A shared instance is counted by its least member, which names it.
abbrev pub shared_size : Program → ℕ
shared_size p =
    length (shared_wires p)
    + sum_by (λ x. live_tests x.statement x.layer)
    (filter (λ x. same_layer (shared_layer (body_sharing p.body) x.path x.layer) x.layer) (program_spots p))
