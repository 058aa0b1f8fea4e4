-- To believe: what a graph does from instant to instant. This speaks of the equations and next formulas alone, and
-- asks nothing of how they were made.
use Rattle.std.specs.Prelude.{◌≡◌, ℕ, Bool, false, ◌||◌, List, map, All}
use Rattle.std.specs.List.{list_any}
use Rattle.base_types.specs.Items.{Item}
use Rattle.base_machines.specs.Machines.{Machine, IsRunFrom}
use Rattle.est_kernel.specs.Terms.{Term}
use Rattle.est_kernel.specs.Plain.{Program, Interface, interface_of, interface_count, given_count}
use Rattle.est_kernel.specs.Reactions.{is_given}
use Rattle.grc_graph.specs.Layers.{Resumed, Started, body_layers}
use Rattle.grc_graph.specs.Scopes.{Scope, program_scope}
use Rattle.grc_graph.specs.Wires.{Wire, Out, End, same_wire}
use Rattle.grc_graph.specs.Formulas.{Formula, meaning}
use Rattle.grc_graph.specs.Spots.{Spot, body_spots}
use Rattle.grc_graph.specs.Equations.{Equation, equations, next_formula, wires}
use Rattle.grc_graph.specs.Edges.{Edge, edges}
use Rattle.grc_graph.specs.SelectionTrees.{body_leaves, selecting}
use Rattle.grc_graph.specs.Walk.{State, Initial, Selecting}
use Rattle.grc_graph.specs.Readings.{Valuation, boolean_interpretation}

-- A graph by names: one equation per wire, in order. Each leaf of the selection tree has the place of its pause and its
-- next formula. The words of formulas are read over the body, with its scope. `lasting` is what they see of the ends of
-- parallels: in a program's graph, these ends themselves.
pub record PlainGraph : Type 0 where
  pub interface : Interface
  pub scope : Scope
  pub body : Term
  pub equations : List Equation
  pub leaves : List ℕ
  pub next : List Formula
  pub lasting : Valuation → Valuation

-- the live instances of a program
abbrev pub program_spots : Program → List Spot
program_spots p = body_spots (body_layers p.body) (program_scope p.inputs (interface_count p)) p.body

-- the wires of a program's graph, in order, and its dependency edges
abbrev pub program_wires : Program → List Wire
program_wires p = wires (interface_of p).outgoing (program_spots p)

abbrev pub program_edges : Program → List Edge
program_edges p = edges (program_spots p)

-- the graph of a program
abbrev pub graph_of : Program → PlainGraph
graph_of p = record {
  interface = interface_of p;
  scope = program_scope p.inputs (interface_count p);
  body = p.body;
  equations = equations (given_count p) (interface_of p).outgoing (program_spots p);
  leaves = body_leaves p.body;
  next = map (λ n. next_formula n (body_layers p.body n)) (body_leaves p.body);
  lasting = λ V. V;
}

-- what a formula of the graph means in a state and an event, under a valuation
abbrev pub formula_value : PlainGraph → State → List Bool → Valuation → Formula → Bool
formula_value g q event V a = meaning (boolean_interpretation g.scope g.body q (is_given event) V (g.lasting V)) a

-- A valuation solves the graph: each equation is met, and what is no wire is false.
pub record SolvesGraph (g : PlainGraph) (q : State) (event : List Bool) (V : Valuation) : Type 0 where
  pub met : All (λ e. V e.wire ≡ formula_value g q event V e.formula) g.equations
  pub others : (w : Wire) → list_any (λ e. same_wire w e.wire) g.equations ≡ false → V w ≡ false

-- the state of the next instant: the leaves whose next formula is true
abbrev pub next_state : PlainGraph → State → List Bool → Valuation → State
next_state g q event V = Selecting (selecting g.leaves (map (λ a. formula_value g q event V a) g.next))

-- what is seen of an instant: which outgoing signals are present, in order, and whether the program pauses: its body
-- ends with code 1 in the layer that runs
pub record ShownInstant : Type 0 where
  pub outputs : List Bool
  pub paused : Bool

abbrev pub shown : PlainGraph → Valuation → ShownInstant
shown g V = record {
  outputs = map (λ s. V (Out s)) g.interface.outgoing;
  paused = V (End 0 Resumed 1) || V (End 0 (Started 0) 1);
}

-- the machine of a graph: in an instant a valuation solves it, and after that is the next state
abbrev pub graph_machine : PlainGraph → Machine Valuation
graph_machine g = record { State = State; start = Initial; instant = SolvesGraph g; next = next_state g }

-- A run from a state over items: one valuation per event, each of which solves the graph in the state that is reached.
-- A reset puts the first instant back and has no valuation.
abbrev pub IsGraphRun : PlainGraph → State → List Item → List Valuation → Type 0
IsGraphRun g q items Vs = IsRunFrom (graph_machine g) q items Vs
