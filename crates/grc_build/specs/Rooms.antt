-- Inner: the room that the limit on the size of graphs leaves.
use Rattle.std.specs.Prelude.{◌≡◌, ℕ, ◌+◌, ◌<◌, if◌then◌else◌, length, Option, MatchOption}
use Rattle.est_kernel.specs.Plain.{Program}
use Rattle.est_kernel.specs.Terms.{Term}
use Rattle.grc_graph.specs.GraphSizes.{live_tests}
use Rattle.grc_graph.specs.Instances.{Instance}
use Rattle.grc_graph.specs.Layers.{Layer}
use Rattle.grc_graph.specs.Rows.{program_rows, row_at}
use Rattle.grc_graph.specs.Wires.{listed, instance_codes}
use Rattle.grc_graph.specs.WireTables.{is_local}

-- what a cost leaves of a room; none where it is greater
abbrev pub Leaves : ℕ → ℕ → Option ℕ → Type 0
Leaves room cost r = MatchOption r (room < cost) (λ rest. rest + cost ≡ room)

-- the wires and the live test nodes of an instance
abbrev pub instance_size : Term → Layer → ℕ
instance_size t l = 1 + ((if is_local t then 1 else 0) + (length (listed (instance_codes t l)) + live_tests t l))

-- the same, by the row of its statement
abbrev pub size_at : Program → Instance → ℕ
size_at p x = instance_size (row_at (program_rows p) x.path).statement x.layer
