-- Contract: the laws that tie the least three-valued solution of a graph to the reaction of its program.
use Rattle.std.specs.Prelude.{◌≡◌, ℕ, Bool, List, length, Some}
use Rattle.est_kernel.specs.Plain.{Program, interface_of, given_count}
use Rattle.est_kernel.specs.Reactions.{Reaction, react}
use Rattle.est_kernel.specs.StaticCodes.{NoInstantLoop}
use Rattle.est_kernel.specs.WellFormed.{IsWellFormed}
use Rattle.est_kernel.specs.WellFormed as programs
use Rattle.grc_graph.specs.GraphRuns.{PlainGraph, SolvesGraph, graph_of, next_state, shown}
use Rattle.grc_graph.specs.Selected.{HasExitCodes, IsState}
use Rattle.grc_graph.specs.Walk.{State, remaining}
use Rattle.grc_graph.specs.Wires.{Wire}
use Rattle.grc_solutions_laws.specs.GraphWalks.{SelectsLeaves, shown_code}
use Rattle.grc_solutions.specs.Solutions.{ReadUp}
use Rattle.grc_ternary.specs.LeastSolutions.{IsKnown, IsLeast, Statuses, TriSolves, true_wires}

-- The graph of a program has a least solution, in each state and event.
abbrev pub LeastIsThere : Type 0
LeastIsThere =
    (p : Program) (q : State) (event : List Bool) → HasExitCodes p.body
    → (T : Statuses) × IsLeast (graph_of p) q event T

-- Where no wire of the least solution is unknown, it is a Boolean solution, and what the state leaves of the program
-- reacts constructively: with the outputs and the code that the solution shows, and to what the next state of the graph
-- leaves of the body.
abbrev pub KnownReacts : Type 0
KnownReacts =
    (p : Program) (q : State) (event : List Bool) (T : Statuses)
    → IsWellFormed p → programs.IsKernel p.body → NoInstantLoop p.body → IsState q p.body → SelectsLeaves q p.body
    → length event ≡ given_count p → IsLeast (graph_of p) q event T → IsKnown T
    → SolvesGraph (graph_of p) q event (true_wires T)
    × (react (interface_of p) (remaining q p.body) event
    ≡ Some (record {
      answer = record {
        outputs = (shown (graph_of p) (true_wires T)).outputs;
        code = shown_code (true_wires T);
      };
      residual = remaining (next_state (graph_of p) q event (true_wires T)) p.body;
    }))

-- Where the program reacts constructively, no wire of the least solution is unknown.
abbrev pub ReactsKnown : Type 0
ReactsKnown =
    (p : Program) (q : State) (event : List Bool) (T : Statuses) (x : Reaction)
    → IsWellFormed p → programs.IsKernel p.body → NoInstantLoop p.body → IsState q p.body → SelectsLeaves q p.body
    → length event ≡ given_count p → IsLeast (graph_of p) q event T
    → react (interface_of p) (remaining q p.body) event ≡ Some x → IsKnown T

-- Where the equations of a graph read up in some rank, no wire of a solution is unknown.
abbrev pub AcyclicKnown : Type 0
AcyclicKnown =
    (g : PlainGraph) (q : State) (event : List Bool) (T : Statuses) (rank : Wire → ℕ)
    → ReadUp rank g.equations → TriSolves g q event T → IsKnown T
