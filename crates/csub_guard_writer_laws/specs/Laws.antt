-- Contract: in each instant of a run the regions of a program's netlist whose heads do not run are at rest, and what
-- that gives guarded texts.
use Rattle.std.specs.Prelude.{◌≡◌, ℕ, List, length, Option, All}
use Rattle.base_types.specs.Items.{Item, EachEvent}
use Rattle.base_types.specs.declared.indices.WireId.{WireId}
use Rattle.est_kernel.specs.Plain.{Program, given_count}
use Rattle.est_kernel.specs.StaticCodes.{NoInstantLoop}
use Rattle.grc_graph.specs.declared.graph.Graph.{Graph}
use Rattle.grc_graph.specs.BuiltGraphs.{IsGraphOf}
use Rattle.grc_graph.specs.GraphRuns.{IsGraphRun, graph_of, program_edges}
use Rattle.grc_graph.specs.Orders.{GoUp}
use Rattle.grc_graph.specs.Readings.{Valuation}
use Rattle.grc_graph.specs.Selected.{HasExitCodes}
use Rattle.grc_graph.specs.Walk.{Initial}
use Rattle.grc_graph.specs.Wires.{Wire}
use Rattle.csub_guard_blocks.specs.Resting.{AreAtRest}
use Rattle.grc_regions.specs.Regions.{AreRegions}
use Rattle.csub_guard_writer.specs.Meaning.{GuardedMeans}
use Rattle.net_gen.specs.Generated.{FollowsRuns}
use Rattle.net_ir.specs.Netlists.{Netlist}
use Rattle.net_ir.specs.Runs.{net_values_run}
use Rattle.csub_guard_writer_laws.specs.Guarded.{GuardedRuns}

-- This holds of every netlist that follows a program's graph over items, so of a simplified one too, wherever the graph
-- has a run over the items.
abbrev pub NetlistsRest : Type 0
NetlistsRest =
    (g : Graph) (p : Program) (net : Netlist) (regions : List (Option WireId))
    → HasExitCodes p.body → NoInstantLoop p.body → IsGraphOf g p → FollowsRuns g net → AreRegions g regions
    → (items : List Item) (Vs : List Valuation) → EachEvent (λ event. length event ≡ given_count p) items
    → IsGraphRun (graph_of p) Initial items Vs
    → All (AreAtRest regions net) (net_values_run net items)

-- So a guarded text that means such a netlist with the regions of the graph, wherever they are at rest, means it over
-- all items with one value for each input, where the dependencies of the graph have no cycle.
abbrev pub GuardedTextsRun : Type 0
GuardedTextsRun =
    (g : Graph) (p : Program) (net : Netlist) (regions : List (Option WireId)) (rank : Wire → ℕ) (text : List ℕ)
    → HasExitCodes p.body → NoInstantLoop p.body → GoUp rank (program_edges p) → IsGraphOf g p
    → length net.inputs ≡ given_count p → FollowsRuns g net → AreRegions g regions
    → GuardedMeans text net regions → GuardedRuns text net regions
