-- The laws of shared graphs, of a program that has a graph.
use Rattle.std.proofs.Common.{◌≡◌, ℕ, Bool, List, length, map, Some, sym, ap, ◌∙◌, subst}
use Rattle.base_types.specs.Items.{Item, EachEvent}
use Rattle.est_kernel.specs.Plain.{Program, given_count, program_of}
use Rattle.est_kernel.specs.Reactions.{Answer, run_of}
use Rattle.est_kernel.specs.StaticCodes.{NoInstantLoop}
use Rattle.est_kernel.specs.WellFormed.{IsWellFormed}
use Rattle.grc_graph.specs.declared.graph.Graph.{Graph}
use Rattle.grc_graph.specs.BuiltGraphs.{IsGraphOf}
use Rattle.grc_graph.specs.GraphRuns.{IsGraphRun, SolvesGraph, graph_of, next_state, shown}
use Rattle.grc_graph.specs.Orders.{GoUp}
use Rattle.grc_graph.specs.Readings.{Valuation}
use Rattle.grc_graph.specs.Selected.{HasExitCodes, IsState}
use Rattle.grc_graph.specs.Walk.{State, Initial}
use Rattle.grc_graph.specs.Wires.{Wire}
use Rattle.grc_solutions_laws.specs.GraphWalks.{SelectsLeaves, shown_answer}
use Rattle.grc_solutions_laws.proofs.Exports.{next_state_is_kept_lem}
use Rattle.grc_share.specs.SharedGraphs.{shared_graph}
use Rattle.grc_share.specs.SharedWires.{shared_edges}
use Rattle.grc_share_laws.specs.SharedReactions.{shared_values}
use Rattle.grc_share_laws.proofs.Exports.{runs_are_shared_lem, shared_reactions_are_given_lem, shared_runs_answer_lem, shared_solutions_are_members_lem}

-- of the program that a graph has
its_own : (given : Graph) (p : Program) → IsGraphOf given p → IsGraphOf given (program_of given.program)
its_own given p built = subst (IsGraphOf given) (sym built.program) built

-- runs of the program's graph are runs of the shared graph
abbrev HasSharedRuns : Program → Type 0
HasSharedRuns p =
    (items : List Item) (Vs : List Valuation) → NoInstantLoop p.body → EachEvent (λ event. length event ≡ given_count p) items
    → IsGraphRun (graph_of p) Initial items Vs → IsGraphRun (shared_graph p) Initial items (map (shared_values p) Vs)

pub shared_runs : (given : Graph) (p : Program) → IsGraphOf given p → HasSharedRuns p
shared_runs given p built =
    subst HasSharedRuns built.program
    (λ items Vs no_loop fits run. runs_are_shared_lem given items Vs (its_own given p built) no_loop fits run)

-- what is seen of a run of the shared graph is what the program answers
abbrev IsAnsweredShared : Program → Type 0
IsAnsweredShared p =
    (rank : Wire → ℕ) (items : List Item) (Us : List Valuation) → IsWellFormed p → NoInstantLoop p.body → GoUp rank (shared_edges p)
    → EachEvent (λ event. length event ≡ given_count p) items → IsGraphRun (shared_graph p) Initial items Us
    → (answers : List Answer) × (run_of p items ≡ Some answers) × (map shown_answer answers ≡ map (λ U. shown (shared_graph p) U) Us)

pub shared_answers : (given : Graph) (p : Program) → IsGraphOf given p → IsAnsweredShared p
shared_answers given p built =
    subst IsAnsweredShared built.program
    (λ rank items Us formed no_loop up fits run. shared_runs_answer_lem given rank items Us (its_own given p built) formed no_loop up fits run)

-- behind an instant of the shared graph from a state of the program is one
abbrev KeepsShared : Program → Type 0
KeepsShared p =
    (rank : Wire → ℕ) (q : State) (event : List Bool) (U : Valuation) → HasExitCodes p.body → NoInstantLoop p.body → GoUp rank (shared_edges p)
    → IsState q p.body → SelectsLeaves q p.body → length event ≡ given_count p → SolvesGraph (shared_graph p) q event U
    → IsState (next_state (shared_graph p) q event U) p.body × SelectsLeaves (next_state (shared_graph p) q event U) p.body

pub shared_states : (given : Graph) (p : Program) → IsGraphOf given p → KeepsShared p
shared_states given p built = subst KeepsShared built.program states
  where
    states : KeepsShared (program_of given.program)
    states rank q event U codes no_loop up state leaves wide solves =
        let P = program_of given.program in
        let own = its_own given p built in
        let found = shared_solutions_are_members_lem given rank q event U own no_loop state wide up solves in
        let law = next_state_is_kept_lem P q event found.0 codes no_loop state leaves found.1 in
        let behind = (shared_reactions_are_given_lem given q event found.0 own no_loop state wide found.1).1 in
        let same : next_state (shared_graph P) q event U ≡ next_state (graph_of P) q event found.0
        = ap (λ W. next_state (shared_graph P) q event W) found.2 ∙ behind in
        (subst (λ s. IsState s P.body) (sym same) law.1, subst (λ s. SelectsLeaves s P.body) (sym same) law.2)
