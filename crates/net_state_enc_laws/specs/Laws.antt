-- Contract: in each instant of a run the latches of a program's netlist hold a well-formed selection of leaves.
use Rattle.std.specs.Prelude.{◌≡◌, Bool, List, length}
use Rattle.base_types.specs.Items.{Item, EachEvent}
use Rattle.est_kernel.specs.Plain.{Program, given_count, program_of}
use Rattle.est_kernel.specs.StaticCodes.{NoInstantLoop}
use Rattle.grc_graph.specs.declared.graph.Graph.{Graph}
use Rattle.grc_graph.specs.BuiltGraphs.{IsGraphOf}
use Rattle.grc_graph.specs.GraphRuns.{IsGraphRun, SolvesGraph, graph_of, next_state}
use Rattle.grc_graph.specs.PlainGraphs.{plain_graph}
use Rattle.grc_graph.specs.Readings.{Valuation}
use Rattle.grc_graph.specs.Selected.{HasExitCodes, IsState}
use Rattle.grc_graph.specs.Walk.{State, Initial}
use Rattle.grc_solutions_laws.specs.GraphWalks.{SelectsLeaves}
use Rattle.net_gen.specs.Generated.{HasInterfaceOf, FollowsInstants}
use Rattle.net_ir.specs.Netlists.{Netlist}
use Rattle.net_ir.specs.Runs.{initial_latches}
use Rattle.net_state_enc.specs.Encodings.{SelectsWell}
use Rattle.net_state_enc.specs.Meeting.{LatchesMeet}

-- A graph keeps the states of a program: what is after one of its instants in such a state is one again, and its
-- leaves are among those of the program's body.
pub record KeepsStates (g : Graph) (p : Program) : Type 0 where
  pub program : program_of g.program ≡ p
  pub next : (q : State) (event : List Bool) (V : Valuation)
      → IsState q p.body → SelectsLeaves q p.body → length event ≡ given_count p → SolvesGraph (plain_graph g) q event V
      → IsState (next_state (plain_graph g) q event V) p.body
      × SelectsLeaves (next_state (plain_graph g) q event V) p.body

-- The graph of a program keeps its states.
abbrev pub GraphsKeepStates : Type 0
GraphsKeepStates =
    (g : Graph) (p : Program) → HasExitCodes p.body → NoInstantLoop p.body → IsGraphOf g p → KeepsStates g p

-- In each instant of a run of such a graph the latches of a netlist that has its interface and follows it are formed
-- so.
abbrev pub KeptStatesAreFormed : Type 0
KeptStatesAreFormed =
    (g : Graph) (p : Program) (net : Netlist) → KeepsStates g p → HasInterfaceOf g net → FollowsInstants g net
    → (items : List Item) (Vs : List Valuation) → EachEvent (λ event. length event ≡ given_count p) items
    → IsGraphRun (plain_graph g) Initial items Vs
    → LatchesMeet (SelectsWell p.body) net (initial_latches net) items

-- This holds of every netlist that has the interface of a program's graph and follows it in each instant, so of a
-- simplified one too, wherever the graph has a run over the items.
abbrev pub LatchesAreFormed : Type 0
LatchesAreFormed =
    (g : Graph) (p : Program) (net : Netlist)
    → HasExitCodes p.body → NoInstantLoop p.body → IsGraphOf g p → HasInterfaceOf g net → FollowsInstants g net
    → (items : List Item) (Vs : List Valuation) → EachEvent (λ event. length event ≡ given_count p) items
    → IsGraphRun (graph_of p) Initial items Vs
    → LatchesMeet (SelectsWell p.body) net (initial_latches net) items
