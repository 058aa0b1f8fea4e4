-- Inner: a netlist around a circuit.
use Rattle.std.specs.Prelude.{◌≡◌, ℕ, true, false, List, ◌∷◌, map}
use Rattle.base_types.specs.declared.indices.NetId.{NetId}
use Rattle.est_kernel.specs.Plain.{program_of, given_names, outgoing_names}
use Rattle.grc_graph.specs.declared.graph.Graph.{Graph}
use Rattle.grc_formulas.specs.declared.table.Words.{Words}
use Rattle.net_ir.specs.declared.netlist.Latch.{Latch}
use Rattle.net_ir.specs.Netlists.{Netlist, output_names}
use Rattle.net_gen.specs.Drawings.{Drawing}
use Rattle.net_gen.specs.Generated.{HasInterfaceOf, FollowsInstants, FollowsRuns}
use Rattle.net_gen.specs.Readiness.{source_net}

-- the latch that tells the first instant, and that of a leaf
abbrev pub boot_latch : NetId → Latch
boot_latch n = record { init = true; from = n }

abbrev pub leaf_latch : NetId → Latch
leaf_latch n = record { init = false; from = n }

-- the parts of a netlist are made of a circuit and of the nets of the next values
pub record IsAround (g : Graph) (w : Words) (d : Drawing) (nets : List NetId) (net : Netlist) : Type 0 where
  pub name : net.name ≡ (program_of g.program).name
  pub inputs : net.inputs ≡ given_names (program_of g.program)
  pub outputs : output_names net ≡ outgoing_names (program_of g.program)
  pub output_nets : map (λ o. o.net) net.outputs ≡ map (source_net d) w.outputs.items
  pub paused : net.paused ≡ (source_net d w.paused).0
  pub latches : net.latches ≡ boot_latch d.no ∷ map leaf_latch nets
  pub gates : net.gates ≡ d.gates

-- a netlist is that of a graph
pub record IsNetOf (g : Graph) (net : Netlist) : Type 0 where
  pub interface : HasInterfaceOf g net
  pub instants : FollowsInstants g net
  pub runs : FollowsRuns g net
