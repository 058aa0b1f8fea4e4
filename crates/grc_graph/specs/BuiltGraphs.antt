-- To believe: when a graph is that of a program.
use Rattle.std.specs.Prelude.{◌≡◌, ◌≤◌, None, map}
use Rattle.base_types.specs.declared.bounds.TheConstants.Limits.{WIRES}
use Rattle.est_kernel.specs.Plain.{Program, program_of}
use Rattle.grc_graph.specs.declared.graph.Graph.{Graph}
use Rattle.grc_graph.specs.GraphRuns.{graph_of, program_spots, program_wires}
use Rattle.grc_graph.specs.GraphSizes.{graph_size}
use Rattle.grc_graph.specs.Instances.{body_instances}
use Rattle.grc_graph.specs.Nodes as plain
use Rattle.grc_graph.specs.PlainGraphs.{instances_of, names_of, node_form, plain_graph}

-- The graph is that of the program, which keeps the limit: its wires and instances are the program's, in order, and so
-- are its nodes, equations and formulas of the next state. Each instance stands for itself alone.
pub record IsGraphOf (g : Graph) (p : Program) : Type 0 where
  pub program : program_of g.program ≡ p
  pub instances : instances_of g ≡ body_instances p.body
  pub wires : names_of g ≡ program_wires p
  pub nodes : map (node_form (instances_of g) (names_of g)) g.nodes.items ≡ map plain.spot_node (program_spots p)
  pub graph : plain_graph g ≡ graph_of p
  pub few : graph_size p ≤ WIRES
  pub own : g.loops ≡ None
