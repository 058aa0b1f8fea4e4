-- To believe: what is counted of the graph of a program: its wires and its live test nodes.
use Rattle.std.specs.Prelude.{ℕ, ◌+◌, length, sum_by}
use Rattle.est_kernel.specs.Plain.{Program}
use Rattle.est_kernel.specs.Sizes.{test_size}
use Rattle.est_kernel.specs.Terms.{Term, Nothing, Pause, Emit, Exit, Present, Suspend, Seq, Loop, Par, Trap, Local}
use Rattle.est_kernel.specs.Terms.{Awake}
use Rattle.grc_graph.specs.GraphRuns.{program_spots, program_wires}
use Rattle.grc_graph.specs.Layers.{Layer, Resumed, Started}

-- the live test nodes of an instance: those of the test of a started Present, and of a resumed Suspend
abbrev pub live_tests : Term → Layer → ℕ
live_tests Nothing l = 0
live_tests Pause l = 0
live_tests (Emit s) l = 0
live_tests (Exit k) l = 0
live_tests (Present e p q) Resumed = 0
live_tests (Present e p q) (Started r) = test_size e
live_tests (Suspend e p) Resumed = test_size e
live_tests (Suspend e p) (Started r) = 0
live_tests (Seq p q) l = 0
live_tests (Loop at p) l = 0
live_tests (Par p q) l = 0
live_tests (Trap p) l = 0
live_tests (Local s p) l = 0
live_tests (Awake e p) l = 0

-- the wires of a program's graph and its live test nodes, counted together
abbrev pub graph_size : Program → ℕ
graph_size p = length (program_wires p) + sum_by (λ x. live_tests x.statement x.layer) (program_spots p)
