-- Inner: the edges at an instance, by the row of its statement.
-- (It is in specs/, short as it is, because a contract can cite definitions of specs/ alone.)
use Rattle.std.specs.Prelude.{List}
use Rattle.grc_graph.specs.Instances.{Instance}
use Rattle.grc_graph.specs.Rows.{Row, row_at}
use Rattle.grc_graph.specs.Edges.{Edge, edges_at}

abbrev pub instance_edges : List Row → Instance → List Edge
instance_edges W x = edges_at (row_at W x.path).scope (row_at W x.path).statement x.path x.layer
