-- Contract: the laws of programs whose dependency edges go up in some rank, so that their graphs have no cycle: each
-- solution is the reaction, and each run of the graph that of the program.
use Rattle.std.specs.Prelude.{◌≡◌, ℕ, Bool, List, length, map, Some}
use Rattle.base_types.specs.Items.{Item, EachEvent}
use Rattle.est_kernel.specs.Plain.{Program, interface_of, given_count}
use Rattle.est_kernel.specs.Reactions.{Answer, react, run_of}
use Rattle.est_kernel.specs.StaticCodes.{NoInstantLoop}
use Rattle.est_kernel.specs.WellFormed.{IsWellFormed}
use Rattle.est_kernel.specs.WellFormed as programs
use Rattle.grc_graph.specs.Edges.{edges}
use Rattle.grc_graph.specs.GraphRuns.{graph_of, program_spots, SolvesGraph, shown, next_state, IsGraphRun}
use Rattle.grc_graph.specs.Orders.{GoUp}
use Rattle.grc_graph.specs.Readings.{Valuation}
use Rattle.grc_graph.specs.Residuals.{resumption}
use Rattle.grc_graph.specs.Selected.{IsState}
use Rattle.grc_graph.specs.Walk.{State, Initial, remaining}
use Rattle.grc_graph.specs.Wires.{Wire}
use Rattle.grc_solutions_laws.specs.GraphWalks.{SelectsLeaves, graph_walk, shown_answer, shown_code}

-- Where each edge between wires goes up in some rank, what the state leaves of the program reacts to the
-- event: the reaction is constructive, the outgoing signals are present as their wires are true, and what is left
-- after it is what the pauses that the walk keeps leave of the body.
abbrev pub SolutionsReact : Type 0
SolutionsReact =
    (p : Program) (q : State) (event : List Bool) (V : Valuation) (rank : Wire → ℕ)
    → IsWellFormed p → programs.IsKernel p.body → NoInstantLoop p.body → IsState q p.body
    → GoUp rank (edges (program_spots p)) → length event ≡ given_count p → SolvesGraph (graph_of p) q event V
    → react (interface_of p) (remaining q p.body) event
    ≡ Some (record {
      answer = record { outputs = (shown (graph_of p) V).outputs; code = (graph_walk p q event V).code };
      residual = resumption (graph_walk p q event V).kept p.body;
    })

-- So a reaction is read off a solution alone: what the state leaves of the program reacts constructively, with the
-- outputs and the code that the solution shows, and leaves what the next state of the graph leaves of the body.
abbrev pub SolutionsAreReactions : Type 0
SolutionsAreReactions =
    (p : Program) (q : State) (event : List Bool) (V : Valuation) (rank : Wire → ℕ)
    → IsWellFormed p → programs.IsKernel p.body → NoInstantLoop p.body → IsState q p.body → SelectsLeaves q p.body
    → GoUp rank (edges (program_spots p)) → length event ≡ given_count p → SolvesGraph (graph_of p) q event V
    → react (interface_of p) (remaining q p.body) event
    ≡ Some (record {
      answer = record { outputs = (shown (graph_of p) V).outputs; code = shown_code V };
      residual = remaining (next_state (graph_of p) q event V) p.body;
    })

-- Where each edge goes up in some rank, a run of the graph from the first instant is the run of the program: every
-- reaction is constructive, and what is seen of the answers is what the graph shows.
abbrev pub GraphRunsAreRuns : Type 0
GraphRunsAreRuns =
    (p : Program) (rank : Wire → ℕ)
    → IsWellFormed p → programs.IsKernel p.body → NoInstantLoop p.body → GoUp rank (edges (program_spots p))
    → (items : List Item) → EachEvent (λ event. length event ≡ given_count p) items
    → (Vs : List Valuation) → IsGraphRun (graph_of p) Initial items Vs
    → (answers : List Answer)
    × (run_of p items ≡ Some answers)
    × (map shown_answer answers ≡ map (λ V. shown (graph_of p) V) Vs)

-- The graph has such a run over all items of the right width, so the program has one: every reaction is constructive.
abbrev pub ProgramsRun : Type 0
ProgramsRun =
    (p : Program) (rank : Wire → ℕ)
    → IsWellFormed p → programs.IsKernel p.body → NoInstantLoop p.body → GoUp rank (edges (program_spots p))
    → (items : List Item) → EachEvent (λ event. length event ≡ given_count p) items
    → (answers : List Answer) × (Vs : List Valuation)
    × (run_of p items ≡ Some answers)
    × IsGraphRun (graph_of p) Initial items Vs
    × (map shown_answer answers ≡ map (λ V. shown (graph_of p) V) Vs)
