-- Where edges go up in a rank, the least solution has no unknown wire, and there is no other solution: so what is said of
-- the least solution is said of each.
use Rattle.std.proofs.Common.{◌≡◌, ℕ, Bool, List, [], ◌∷◌, length, map, Option, Some, refl, sym, ap, ◌∙◌, subst}
use Rattle.std.proofs.Math.Path.{fun_ext}
use Rattle.base_types.specs.Items.{Item, Event, Reset, EachEvent}
use Rattle.est_kernel.specs.Plain.{Program, interface_of, given_count}
use Rattle.est_kernel.specs.Reactions.{Answer, before, goes_on, react, run_from}
use Rattle.est_kernel.specs.StaticCodes.{NoInstantLoop}
use Rattle.est_kernel.specs.Terms.{Term}
use Rattle.est_kernel.specs.WellFormed.{IsWellFormed}
use Rattle.est_kernel.specs.WellFormed as programs
use Rattle.grc_graph.specs.Edges.{edges}
use Rattle.grc_graph.specs.GraphRuns.{graph_of, program_spots, SolvesGraph, shown, next_state, IsGraphRun}
use Rattle.grc_graph.specs.Orders.{GoUp}
use Rattle.grc_graph.specs.Readings.{Valuation}
use Rattle.grc_graph.specs.Residuals.{resumption}
use Rattle.grc_graph.specs.Selected.{HasExitCodes}
use Rattle.grc_graph.specs.Walk.{State, Initial, remaining}
use Rattle.grc_graph.specs.Wires.{Wire}
use Rattle.grc_solutions_laws.specs.GraphWalks.{graph_walk, shown_answer, shown_code}
use Rattle.grc_solutions_laws.proofs.Exports.{program_kernel}
use Rattle.grc_solutions.proofs.Exports.{graphs_read_up_lem, graphs_have_one_solution_lem, graph_runs_exist_lem}
use Rattle.grc_ternary.specs.AcyclicLaws.{SolutionsReact, SolutionsAreReactions, GraphRunsAreRuns, ProgramsRun}
use Rattle.grc_ternary.specs.LeastSolutions.{IsKnown, IsLeast, Statuses, true_wires}
use Rattle.grc_ternary.specs.RunLaws.{LeavesTerm}
use Rattle.grc_ternary.proofs.KnownWires.{acyclic_known_lem}
use Rattle.grc_ternary.proofs.Reactions.{known_reacts_lem, least_is_there_lem, true_solves, walk_reacts}
use Rattle.grc_ternary.proofs.Runs.{moves_to_program, same_instant}

-- the least solution of an instant, with no unknown wire, is this valuation
record IsOnly (p : Program) (q : State) (event : List Bool) (V : Valuation) : Type 0 where
  pub statuses : Statuses
  pub least : IsLeast (graph_of p) q event statuses
  pub known : IsKnown statuses
  pub same : true_wires statuses ≡ V

only : (p : Program) (rank : Wire → ℕ) → HasExitCodes p.body → GoUp rank (edges (program_spots p)) →
    (q : State) (event : List Bool) (V : Valuation) → SolvesGraph (graph_of p) q event V → IsOnly p q event V
only p rank kernel up q event V solves =
    let found = least_is_there_lem p q event kernel in
    let known = acyclic_known_lem (graph_of p) q event found.0 rank (graphs_read_up_lem p rank kernel up) found.1.solves in
    record {
      statuses = found.0;
      least = found.1;
      known = known;
      same = fun_ext ((graphs_have_one_solution_lem p rank kernel up q event).1 (true_wires found.0) V
          (true_solves p q event found.0 kernel found.1.solves known) solves);
    }

pub solutions_react_lem : SolutionsReact
solutions_react_lem p q event V rank formed kernels no_loop state up width solves =
    let o = only p rank (program_kernel p formed kernels) up q event V solves in
    subst (λ W. react (interface_of p) (remaining q p.body) event
    ≡ Some (record {
      answer = record { outputs = (shown (graph_of p) W).outputs; code = (graph_walk p q event W).code };
      residual = resumption (graph_walk p q event W).kept p.body;
    }))
    o.same (walk_reacts p q event formed kernels no_loop state width o.statuses o.least o.known)

pub solutions_are_reactions_lem : SolutionsAreReactions
solutions_are_reactions_lem p q event V rank formed kernels no_loop state leaves up width solves =
    let o = only p rank (program_kernel p formed kernels) up q event V solves in
    subst (λ W. react (interface_of p) (remaining q p.body) event
    ≡ Some (record {
      answer = record { outputs = (shown (graph_of p) W).outputs; code = shown_code W };
      residual = remaining (next_state (graph_of p) q event W) p.body;
    }))
    o.same (known_reacts_lem p q event o.statuses formed kernels no_loop state leaves width o.least o.known).1

-- the answers are there, and are what a run of the graph shows
abbrev Agrees : Program → Option (List Answer) → List Valuation → Type 0
Agrees p o Vs = (answers : List Answer) × (o ≡ Some answers) × (map shown_answer answers ≡ map (λ V. shown (graph_of p) V) Vs)

one_more : (p : Program) (a : Answer) (o : Option (List Answer)) (V : Valuation) (Vs : List Valuation) → shown_answer a ≡ shown (graph_of p) V → Agrees p o Vs →
    Agrees p (before a o) (V ∷ Vs)
one_more p a o V Vs same rest = (
  a ∷ rest.0,
  ap (before a) rest.1,
  ap (λ x. x ∷ map shown_answer rest.0) same ∙ ap (λ l. shown (graph_of p) V ∷ l) rest.2,
)

module _ (p : Program) (rank : Wire → ℕ) (formed : IsWellFormed p) (kernels : programs.IsKernel p.body) (no_loop : NoInstantLoop p.body)
    (up : GoUp rank (edges (program_spots p))) where
  runs : (items : List Item) (q : State) (r : Term) (Vs : List Valuation) → LeavesTerm p r q → EachEvent (λ event. length event ≡ given_count p) items →
      IsGraphRun (graph_of p) q items Vs → Agrees p (run_from (interface_of p) p.body r items) Vs
  runs [] q r [] match widths run = ([], refl, refl)
  runs [] q r (V ∷ Vs) match widths run = absurd run
  runs (Event event ∷ items) q r [] match widths run = absurd run
  runs (Event event ∷ items) q r (V ∷ Vs) match widths run =
      let o = only p rank (program_kernel p formed kernels) up q event V run.0 in
      let x = moves_to_program p formed kernels no_loop q r event o.statuses match widths.0 o.least o.known in
      let here = same_instant p formed kernels no_loop r q event x.0 o.statuses match widths.0 x.1 o.least o.known in
      let behind = subst (λ W. LeavesTerm p x.0.residual (next_state (graph_of p) q event W)) o.same here.1 in
      subst (λ y. Agrees p (goes_on y (λ s. run_from (interface_of p) p.body s items)) (V ∷ Vs)) (sym x.1)
      (one_more p x.0.answer (run_from (interface_of p) p.body x.0.residual items) V Vs (here.0 ∙ ap (λ W. shown (graph_of p) W) o.same)
      (runs items (next_state (graph_of p) q event V) x.0.residual Vs behind widths.1 run.1))
  runs (Reset ∷ items) q r Vs match widths run =
      runs items Initial p.body Vs (record { term = refl; state = tt; leaves = tt }) widths run

pub graph_runs_are_runs_lem : GraphRunsAreRuns
graph_runs_are_runs_lem p rank formed kernels no_loop up items widths Vs run =
    runs p rank formed kernels no_loop up items Initial p.body Vs (record { term = refl; state = tt; leaves = tt }) widths run

pub programs_run_lem : ProgramsRun
programs_run_lem p rank formed kernels no_loop up items widths =
    let r = (graph_runs_exist_lem p rank (program_kernel p formed kernels) up Initial items).0 in
    let a = graph_runs_are_runs_lem p rank formed kernels no_loop up items widths r.0 r.1 in
    (a.0, r.0, a.1, r.1, a.2)
