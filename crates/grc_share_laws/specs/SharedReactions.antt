-- Contract: the laws of shared graphs: what their reactions are.
use Rattle.std.specs.Prelude.{◌≡◌, ℕ, Bool, Some, false, if◌then◌else◌, List, length, map}
use Rattle.std.specs.List.{list_any}
use Rattle.base_types.specs.Items.{Item, EachEvent}
use Rattle.base_machines.specs.Machines.{Machine, IsRun}
use Rattle.est_kernel.specs.Plain.{Program, given_count, program_of}
use Rattle.est_kernel.specs.Reactions.{Answer, run_of}
use Rattle.est_kernel.specs.StaticCodes.{NoInstantLoop}
use Rattle.est_kernel.specs.WellFormed.{IsWellFormed}
use Rattle.grc_graph.specs.declared.graph.Graph.{Graph}
use Rattle.grc_graph.specs.BuiltGraphs.{IsGraphOf}
use Rattle.grc_graph.specs.GraphRuns.{IsGraphRun, SolvesGraph, graph_of, next_state, shown}
use Rattle.grc_graph.specs.Orders.{GoUp}
use Rattle.grc_graph.specs.Readings.{Valuation}
use Rattle.grc_graph.specs.Selected.{IsState}
use Rattle.grc_graph.specs.Walk.{State, Initial}
use Rattle.grc_graph.specs.Wires.{Wire, same_wire}
use Rattle.grc_solutions_laws.specs.GraphWalks.{shown_answer}
use Rattle.grc_share.specs.SharedGraphs.{shared_graph, shared_next}
use Rattle.grc_share.specs.SharedWires.{members, shared_edges, shared_wires}

-- whether some member of a shared wire is true
abbrev pub some_member : Program → Valuation → Wire → Bool
some_member p V u = list_any V (members p u)

-- the values of the shared wires, where the wires of the program have these: each is true where a member is
abbrev pub shared_values : Program → Valuation → Valuation
shared_values p V = λ u. if list_any (same_wire u) (shared_wires p) then some_member p V u else false

-- In a state of the body, a solution of the program's equations gives one of the equations of the shared wires: a
-- shared
-- wire is true exactly where a member is.
abbrev pub SharedWiresAreMembers : Type 0
SharedWiresAreMembers =
    (g : Graph) (q : State) (event : List Bool) (V : Valuation)
    → IsGraphOf g (program_of g.program) → NoInstantLoop (program_of g.program).body
    → IsState q (program_of g.program).body → length event ≡ given_count (program_of g.program)
    → SolvesGraph (graph_of (program_of g.program)) q event V
    → SolvesGraph (shared_graph (program_of g.program)) q event (shared_values (program_of g.program) V)

-- Where the edges between shared wires go up in some rank, there is no other: each solution of the shared equations is
-- that of the program's, read so.
abbrev pub SharedSolutionsAreMembers : Type 0
SharedSolutionsAreMembers =
    (g : Graph) (rank : Wire → ℕ) (q : State) (event : List Bool) (U : Valuation)
    → IsGraphOf g (program_of g.program) → NoInstantLoop (program_of g.program).body
    → IsState q (program_of g.program).body → length event ≡ given_count (program_of g.program)
    → GoUp rank (shared_edges (program_of g.program))
    → SolvesGraph (shared_graph (program_of g.program)) q event U
    → (V : Valuation) × SolvesGraph (graph_of (program_of g.program)) q event V × (U ≡ shared_values
    (program_of g.program) V)

-- What is seen of the shared solution, and the state after it, are those of the program's.
abbrev pub SharedReactionsAreGiven : Type 0
SharedReactionsAreGiven =
    (g : Graph) (q : State) (event : List Bool) (V : Valuation)
    → IsGraphOf g (program_of g.program) → NoInstantLoop (program_of g.program).body
    → IsState q (program_of g.program).body → length event ≡ given_count (program_of g.program)
    → SolvesGraph (graph_of (program_of g.program)) q event V
    → (shown (shared_graph (program_of g.program)) (shared_values (program_of g.program) V)
    ≡ shown (graph_of (program_of g.program)) V)
    × (shared_next (program_of g.program) q event (shared_values (program_of g.program) V)
    ≡ next_state (graph_of (program_of g.program)) q event V)

-- the machine of the shared graph: in an instant a valuation solves it, and after that is the state of shared pauses
abbrev pub shared_machine : Program → Machine Valuation
shared_machine p =
    record { State = State; start = Initial; instant = SolvesGraph (shared_graph p); next = shared_next p }

-- a run of the shared graph from the first instant
abbrev pub IsSharedRun : Program → List Item → List Valuation → Type 0
IsSharedRun p items Us = IsRun (shared_machine p) items Us

-- Where the edges between shared wires go up in some rank, the runs of the shared graph from the first instant are
-- those
-- of the program's graph, read so in each instant, and the same is seen of them.
abbrev pub SharedRunsAreRuns : Type 0
SharedRunsAreRuns =
    (g : Graph) (rank : Wire → ℕ) (items : List Item) (Us : List Valuation)
    → IsGraphOf g (program_of g.program) → NoInstantLoop (program_of g.program).body
    → GoUp rank (shared_edges (program_of g.program))
    → EachEvent (λ event. length event ≡ given_count (program_of g.program)) items
    → IsSharedRun (program_of g.program) items Us
    → (Vs : List Valuation)
    × IsGraphRun (graph_of (program_of g.program)) Initial items Vs
    × (Us ≡ map (shared_values (program_of g.program)) Vs)
    × (map (λ U. shown (shared_graph (program_of g.program)) U) Us
    ≡ map (λ V. shown (graph_of (program_of g.program)) V) Vs)

-- The other way round each run of the program's graph gives one of the shared graph. This asks for no rank.
abbrev pub RunsAreShared : Type 0
RunsAreShared =
    (g : Graph) (items : List Item) (Vs : List Valuation)
    → IsGraphOf g (program_of g.program) → NoInstantLoop (program_of g.program).body
    → EachEvent (λ event. length event ≡ given_count (program_of g.program)) items
    → IsGraphRun (graph_of (program_of g.program)) Initial items Vs
    → IsSharedRun (program_of g.program) items (map (shared_values (program_of g.program)) Vs)

-- Where the edges between shared wires go up in some rank, the shared graph has one run over all items of the right
-- width.
abbrev pub SharedGraphsRun : Type 0
SharedGraphsRun =
    (g : Graph) (rank : Wire → ℕ) (items : List Item)
    → IsGraphOf g (program_of g.program) → NoInstantLoop (program_of g.program).body
    → GoUp rank (shared_edges (program_of g.program))
    → EachEvent (λ event. length event ≡ given_count (program_of g.program)) items
    → ((Us : List Valuation) × IsSharedRun (program_of g.program) items Us)
    × ((Us Ws : List Valuation) → IsSharedRun (program_of g.program) items Us
    → IsSharedRun (program_of g.program) items Ws → Us ≡ Ws)

-- That run is the run of the program: every reaction is constructive, and what is seen of the answers is what the
-- shared
-- graph shows.
abbrev pub SharedRunsAnswer : Type 0
SharedRunsAnswer =
    (g : Graph) (rank : Wire → ℕ) (items : List Item) (Us : List Valuation)
    → IsGraphOf g (program_of g.program) → IsWellFormed (program_of g.program)
    → NoInstantLoop (program_of g.program).body → GoUp rank (shared_edges (program_of g.program))
    → EachEvent (λ event. length event ≡ given_count (program_of g.program)) items
    → IsSharedRun (program_of g.program) items Us
    → (answers : List Answer)
    × (run_of (program_of g.program) items ≡ Some answers)
    × (map shown_answer answers ≡ map (λ U. shown (shared_graph (program_of g.program)) U) Us)
