-- Inner: what a node by numbers is by names.
use Rattle.std.specs.Prelude.{◌≡◌, ℕ, ◌+◌, ◌<◌, ◌^◌, length, IsTrue}
use Rattle.grc_graph.specs.declared.wires.Node.{Node}
use Rattle.grc_graph.specs.GraphShapes.{node_fits}
use Rattle.grc_graph.specs.Layers.{Layer, Resumed, Started}
use Rattle.grc_graph.specs.Neighbouring.{instances_in, names_in}
use Rattle.grc_graph.specs.Nodes as plain
use Rattle.grc_graph.specs.PlainGraphs.{instance_at, node_form}
use Rattle.grc_graph.specs.Rows.{program_rows, spot_at}
use Rattle.grc_build.specs.declared.tables.Tables.{Tables}
use Rattle.grc_build.specs.Tabled.{IsLive, program_in}

-- its numbers are those of the tables, and by names it is this node
pub record IsNodeOf (t : Tables) (x : Node) (y : plain.Node) : Type 0 where
  pub fits : IsTrue (node_fits (length (instances_in t.wires)) (length (names_in t.wires)) x)
  pub same : node_form (instances_in t.wires) (names_in t.wires) x ≡ y

-- the node of the instance with this number
abbrev pub IsNode : Tables → Node → ℕ → Type 0
IsNode t x i = IsNodeOf t x (plain.spot_node (spot_at (program_rows (program_in t))
    (instance_at (instances_in t.wires) i)))

abbrev pub by_layer : Layer → Node → Node → Node
by_layer Resumed x y = x
by_layer (Started r) x y = y

-- the branches of a started parallel are live
pub record BranchesLive (t : Tables) (n m r : ℕ) : Type 0 where
  pub number : n + 1 < 2 ^ 32
  pub first : IsLive t (n + 1) (Started r)
  pub second : IsLive t m (Started r)

abbrev pub AreBranches : Tables → ℕ → ℕ → Layer → Type 0
AreBranches t n m Resumed = Unit {0}
AreBranches t n m (Started r) = BranchesLive t n m r

abbrev pub parallel_node : ℕ → ℕ → Layer → plain.Node
parallel_node n m Resumed = plain.Sync n Resumed
parallel_node n m (Started r) = plain.Fork (n + 1) m (Started r)
