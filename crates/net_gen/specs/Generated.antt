-- Contract: that a netlist stands for a graph, in each instant and over items.
use Rattle.std.specs.Prelude.{◌≡◌, ℕ, ◌+◌, ◌<◌, Bool, true, false, Some, List, [], ◌∷◌, length, map, slice_index_or, ⊤}
use Rattle.base_types.specs.Items.{Item, EachEvent}
use Rattle.base_types.specs.declared.indices.WireId.{WireId}
use Rattle.est_kernel.specs.Plain.{program_of, given_count, given_names, outgoing_names}
use Rattle.grc_graph.specs.declared.graph.Graph.{Graph}
use Rattle.grc_graph.specs.GraphRuns.{SolvesGraph, IsGraphRun, formula_value}
use Rattle.grc_graph.specs.GraphRuns as graphs
use Rattle.grc_graph.specs.PlainGraphs.{names_of, plain_graph, wire_at}
use Rattle.grc_graph.specs.Readings.{Valuation}
use Rattle.grc_graph.specs.Walk.{Initial}
use Rattle.grc_formulas.specs.Occasions.{Occasion, state_in}
use Rattle.net_ir.specs.declared.netlist.Gate.{Gate}
use Rattle.net_ir.specs.Gates.{value_in}
use Rattle.net_ir.specs.Netlists.{Netlist, first_gate, output_names}
use Rattle.net_ir.specs.Runs.{Shown, shown, net_values, next_latches, net_values_run, net_run}

-- The names are those of the program and of its interface. The first latch tells the first instant; the others, one for
-- each leaf, are false at first.
pub record HasInterfaceOf (g : Graph) (net : Netlist) : Type 0 where
  pub name : net.name ≡ (program_of g.program).name
  pub inputs : net.inputs ≡ given_names (program_of g.program)
  pub outputs : output_names net ≡ outgoing_names (program_of g.program)
  pub latches : map (λ l. l.init) net.latches ≡ true ∷ map (λ f. false) g.next.items

-- each gate that carries a wire has the wire's value
abbrev pub Carries : Graph → Netlist → List Bool → Valuation → Type 0
Carries g net values V = (k : ℕ) (x : Gate) (v : WireId) → k < length net.gates →
    (slice_index_or net.gates k x).wire ≡ Some v
    → value_in values (first_gate net + k) ≡ V (wire_at (names_of g) v.0)

-- what a net shows where a graph shows this
abbrev pub shown_as : graphs.ShownInstant → Shown
shown_as s = record { outputs = s.outputs; paused = s.paused }

-- What the nets' values are on an occasion: gates carry their wires' values, the net shows what the graph does, and the
-- latches hold the next state: it is no longer the first instant, and leaves are selected as the next formulas say.
pub record ReactsAs (g : Graph) (net : Netlist) (t : Occasion g) (values : List Bool) : Type 0 where
  pub carries : Carries g net values t.valuation
  pub shows : shown net values ≡ shown_as (graphs.shown (plain_graph g) t.valuation)
  pub next : next_latches net values
      ≡ false ∷ map (formula_value (plain_graph g) (state_in g t) t.event t.valuation) (plain_graph g).next

-- on every occasion on which the wires solve the graph's equations
abbrev pub FollowsInstants : Graph → Netlist → Type 0
FollowsInstants g net = (t : Occasion g) → SolvesGraph (plain_graph g) (state_in g t) t.event t.valuation
    → ReactsAs g net t (net_values net (t.boot ∷ t.bits) t.event)

-- the same of each instant in two lists of equal length
abbrev pub EachInstant : (List Bool → Valuation → Type 0) → List (List Bool) → List Valuation → Type 0
EachInstant P [] [] = ⊤
EachInstant P [] (V ∷ Vs) = ⊥
EachInstant P (values ∷ more) [] = ⊥
EachInstant P (values ∷ more) (V ∷ Vs) = P values V × EachInstant P more Vs

-- Over items: wherever the graph has a run, the net shows the same from instant to instant, and its gates carry the
-- wires' values in each.
pub record FollowsRun (g : Graph) (net : Netlist) (items : List Item) (Vs : List Valuation) : Type 0 where
  pub shows : net_run net items ≡ map (λ V. shown_as (graphs.shown (plain_graph g) V)) Vs
  pub carries : EachInstant (Carries g net) (net_values_run net items) Vs

abbrev pub FollowsRuns : Graph → Netlist → Type 0
FollowsRuns g net = (items : List Item) (Vs : List Valuation) →
    EachEvent (λ event. length event ≡ given_count (program_of g.program)) items
    → IsGraphRun (plain_graph g) Initial items Vs → FollowsRun g net items Vs
