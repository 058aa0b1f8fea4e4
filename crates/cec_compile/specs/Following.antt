-- Contract: what else `compile` says of the netlist of a graph, in every state and over all items.
use Rattle.std.specs.Prelude.{◌≤◌, length}
use Rattle.est_kernel.specs.Plain.{program_of}
use Rattle.grc_formulas.specs.Sizes.{rows_at_most}
use Rattle.net_gen.specs.Costs.{gates_at_most}
use Rattle.net_gen.specs.Generated.{HasInterfaceOf, FollowsInstants, FollowsRuns}
use Rattle.net_ir.specs.Runs.{netlist_of}
use Rattle.cec_compile.specs.GraphsMade.{IsOwnOrShared}
use Rattle.cec_compile.specs.declared.passes.Compiled.{Compiled}

-- The graph is that of its program or of the program's shared wires. The netlist has at most as many gates as the
-- formulas of its graph need, the graph's interface, and the wires' values in each instant, whatever the state; and
-- over items it shows what the graph shows.
pub record FollowsGraph (c : Compiled) : Type 0 where
  pub graph : IsOwnOrShared c.graph (program_of c.graph.program)
  pub size : length c.net.gates.items ≤ gates_at_most c.graph (rows_at_most c.graph) c.order.list.items
  pub interface : HasInterfaceOf c.graph (netlist_of c.net)
  pub instants : FollowsInstants c.graph (netlist_of c.net)
  pub runs : FollowsRuns c.graph (netlist_of c.net)
