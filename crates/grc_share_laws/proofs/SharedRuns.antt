-- The reactions and the runs of a shared graph are those of the program's graph.
use Rattle.std.proofs.Common.{◌≡◌, Bool, List, [], ◌∷◌, length, map, refl, sym, ap, ◌∙◌, subst}
use Rattle.std.specs.Prelude.{ℕ}
use Rattle.std.proofs.Math.Path.{fun_ext}
use Rattle.base_types.specs.Items.{Item, Event, Reset, EachEvent}
use Rattle.base_machines.specs.Machines.{IsRunFrom}
use Rattle.est_kernel.specs.Plain.{given_count, program_of}
use Rattle.est_kernel.specs.StaticCodes.{NoInstantLoop}
use Rattle.grc_graph.specs.declared.graph.Graph.{Graph}
use Rattle.grc_graph.specs.BuiltGraphs.{IsGraphOf}
use Rattle.grc_graph.specs.GraphRuns.{IsGraphRun, SolvesGraph, graph_of, next_state, shown}
use Rattle.grc_graph.specs.Orders.{GoUp}
use Rattle.grc_graph.specs.Readings.{Valuation}
use Rattle.grc_graph.specs.Selected.{HasExitCodes, IsState}
use Rattle.grc_graph.specs.Walk.{State, Initial}
use Rattle.grc_graph.specs.Wires.{Wire}
use Rattle.grc_solutions_laws.specs.GraphWalks.{SelectsLeaves}
use Rattle.grc_solutions_laws.proofs.Exports.{equations_are_the_walk_lem, next_state_is_kept_lem}
use Rattle.grc_share.specs.SharedGraphs.{shared_graph, shared_next}
use Rattle.grc_share.specs.SharedInstances.{body_sharing}
use Rattle.grc_share.specs.SharedWires.{shared_edges, shared_wire}
use Rattle.grc_share.proofs.Exports.{body_codes}
use Rattle.grc_solutions.proofs.Exports.{graph_runs_exist_lem, graphs_have_one_solution_lem}
use Rattle.grc_ternary.proofs.Exports.{graph_runs_are_runs_lem}
use Rattle.grc_share_laws.specs.SharedReactions.{RunsAreShared, SharedGraphsRun, SharedReactionsAreGiven, SharedRunsAnswer, SharedRunsAreRuns}
use Rattle.grc_share_laws.specs.SharedReactions.{SharedSolutionsAreMembers, SharedWiresAreMembers}
use Rattle.grc_share_laws.specs.SharedReactions.{shared_machine, shared_values}
use Rattle.grc_share_laws.proofs.GraphReads.{kernel, limits}
use Rattle.grc_share_laws.proofs.Settled.{Solution}
use Rattle.grc_share_laws.proofs.SharedMet.{shared-solved}
use Rattle.grc_share_laws.proofs.SharedOnce.{members-up, one-solution}
use Rattle.grc_share_laws.proofs.StatesMet.{shown-same, state-same}

module _ (g : Graph) (built : IsGraphOf g (program_of g.program)) (no_loop : NoInstantLoop (program_of g.program).body) where
  exits : HasExitCodes (program_of g.program).body
  exits = body_codes (program_of g.program) (kernel g built) (limits g built)

  module _ (q : State) (event : List Bool) (V : Valuation) (state : IsState q (program_of g.program).body)
      (width : length event ≡ given_count (program_of g.program)) (solves : SolvesGraph (graph_of (program_of g.program)) q event V) where
    solution : Solution (program_of g.program) q event V
    solution = record {
      kernel = kernel g built;
      limits = limits g built;
      codes = exits;
      state = state;
      solves = solves;
      walk = (equations_are_the_walk_lem (program_of g.program) q event V exits no_loop state width).0 solves;
    }

    solved : SolvesGraph (shared_graph (program_of g.program)) q event (shared_values (program_of g.program) V)
    solved = shared-solved g built q event V solution

    seen : shown (shared_graph (program_of g.program)) (shared_values (program_of g.program) V) ≡ shown (graph_of (program_of g.program)) V
    seen = shown-same (program_of g.program) q event V solution

    behind : shared_next (program_of g.program) q event (shared_values (program_of g.program) V) ≡ next_state (graph_of (program_of g.program)) q event V
    behind = state-same (program_of g.program) q event V solution

  -- ---- with ranks

  module _ (rank : Wire → ℕ) (up : GoUp rank (shared_edges (program_of g.program))) where
    -- a solution of the shared equations is that of a solution
    found : (q : State) (event : List Bool) (U : Valuation) → IsState q (program_of g.program).body → length event ≡ given_count (program_of g.program)
        → SolvesGraph (shared_graph (program_of g.program)) q event U
        → (V : Valuation) × SolvesGraph (graph_of (program_of g.program)) q event V × (U ≡ shared_values (program_of g.program) V)
    found q event U state width solves =
        let p = program_of g.program in
        let R : Wire → ℕ = λ u. rank (shared_wire (body_sharing p.body) u) in
        let given = (graphs_have_one_solution_lem p R exits (members-up g built rank up) q event).0 in
        (given.0, given.1, fun_ext ((one-solution g built rank up q event).1 U (shared_values p given.0) solves (solved q event given.0 state width given.1)))

    -- ---- runs

    runs : (items : List Item) (q : State) (Us : List Valuation) → IsState q (program_of g.program).body → SelectsLeaves q (program_of g.program).body
        → EachEvent (λ event. length event ≡ given_count (program_of g.program)) items → IsRunFrom (shared_machine (program_of g.program)) q items Us
        → (Vs : List Valuation) × IsGraphRun (graph_of (program_of g.program)) q items Vs × (Us ≡ map (shared_values (program_of g.program)) Vs)
        × (map (λ U. shown (shared_graph (program_of g.program)) U) Us ≡ map (λ V. shown (graph_of (program_of g.program)) V) Vs)
    runs [] q [] state leaves fits run = ([], tt, refl, refl)
    runs [] q (U ∷ Us) state leaves fits run = absurd run
    runs (Event event ∷ items) q [] state leaves fits run = absurd run
    runs (Event event ∷ items) q (U ∷ Us) state leaves fits run =
        let p = program_of g.program in
        let f = found q event U state fits.0 run.0 in
        let V = f.0 in
        let next = next_state_is_kept_lem p q event V exits no_loop state leaves f.1 in
        let there = subst (λ s. IsRunFrom (shared_machine p) s items Us) (ap (shared_next p q event) f.2 ∙ behind q event V state fits.0 f.1) run.1 in
        let r = runs items (next_state (graph_of p) q event V) Us next.1 next.2 fits.1 there in
        let one = ap (λ u. shown (shared_graph p) u) f.2 ∙ seen q event V state fits.0 f.1 in
        (V ∷ r.0, (f.1, r.1), (λ i. f.2 i ∷ r.2 i), (λ i. one i ∷ r.3 i))
    runs (Reset ∷ items) q Us state leaves fits run = runs items Initial Us tt tt fits run

  shared : (items : List Item) (q : State) (Vs : List Valuation) → IsState q (program_of g.program).body → SelectsLeaves q (program_of g.program).body
      → EachEvent (λ event. length event ≡ given_count (program_of g.program)) items → IsGraphRun (graph_of (program_of g.program)) q items Vs
      → IsRunFrom (shared_machine (program_of g.program)) q items (map (shared_values (program_of g.program)) Vs)
  shared [] q [] state leaves fits run = tt
  shared [] q (V ∷ Vs) state leaves fits run = absurd run
  shared (Event event ∷ items) q [] state leaves fits run = absurd run
  shared (Event event ∷ items) q (V ∷ Vs) state leaves fits run =
      let p = program_of g.program in
      let next = next_state_is_kept_lem p q event V exits no_loop state leaves run.0 in
      let rest = shared items (next_state (graph_of p) q event V) Vs next.1 next.2 fits.1 run.1 in (
        solved q event V state fits.0 run.0,
        subst (λ s. IsRunFrom (shared_machine p) s items (map (shared_values p) Vs)) (sym (behind q event V state fits.0 run.0)) rest,
      )
  shared (Reset ∷ items) q Vs state leaves fits run = shared items Initial Vs tt tt fits run

module _ (g : Graph) (built : IsGraphOf g (program_of g.program)) (no_loop : NoInstantLoop (program_of g.program).body) (rank : Wire → ℕ)
    (up : GoUp rank (shared_edges (program_of g.program))) (items : List Item)
    (fits : EachEvent (λ event. length event ≡ given_count (program_of g.program)) items) where
  -- the rank of a wire's shared wire
  abbrev members-rank : Wire → ℕ
  members-rank u = rank (shared_wire (body_sharing (program_of g.program).body) u)

  run-there : (Us : List Valuation) × IsRunFrom (shared_machine (program_of g.program)) Initial items Us
  run-there =
      let p = program_of g.program in
      let given = (graph_runs_exist_lem p members-rank (exits g built no_loop) (members-up g built rank up) Initial items).0 in
      (map (shared_values p) given.0, shared g built no_loop items Initial given.0 tt tt fits given.1)

  one-run : (Us Ws : List Valuation) → IsRunFrom (shared_machine (program_of g.program)) Initial items Us
      → IsRunFrom (shared_machine (program_of g.program)) Initial items Ws → Us ≡ Ws
  one-run Us Ws h k =
      let p = program_of g.program in
      let a = runs g built no_loop rank up items Initial Us tt tt fits h in
      let b = runs g built no_loop rank up items Initial Ws tt tt fits k in
      let same = (graph_runs_exist_lem p members-rank (exits g built no_loop) (members-up g built rank up) Initial items).1 a.0 b.0 a.1 b.1 in
      a.2 ∙ ap (λ Vs. map (shared_values p) Vs) same ∙ sym b.2

pub shared_wires_are_members_lem : SharedWiresAreMembers
shared_wires_are_members_lem g q event V built no_loop state width solves = solved g built no_loop q event V state width solves

pub shared_solutions_are_members_lem : SharedSolutionsAreMembers
shared_solutions_are_members_lem g rank q event U built no_loop state width up solves = found g built no_loop rank up q event U state width solves

pub shared_reactions_are_given_lem : SharedReactionsAreGiven
shared_reactions_are_given_lem g q event V built no_loop state width solves =
    (seen g built no_loop q event V state width solves, behind g built no_loop q event V state width solves)

pub shared_runs_are_runs_lem : SharedRunsAreRuns
shared_runs_are_runs_lem g rank items Us built no_loop up fits run = runs g built no_loop rank up items Initial Us tt tt fits run

pub runs_are_shared_lem : RunsAreShared
runs_are_shared_lem g items Vs built no_loop fits run = shared g built no_loop items Initial Vs tt tt fits run

pub shared_graphs_run_lem : SharedGraphsRun
shared_graphs_run_lem g rank items built no_loop up fits = (run-there g built no_loop rank up items fits, one-run g built no_loop rank up items fits)

pub shared_runs_answer_lem : SharedRunsAnswer
shared_runs_answer_lem g rank items Us built formed no_loop up fits run =
    let p = program_of g.program in
    let r = runs g built no_loop rank up items Initial Us tt tt fits run in
    let R : Wire → ℕ = λ u. rank (shared_wire (body_sharing p.body) u) in
    let a = graph_runs_are_runs_lem p R formed (kernel g built) no_loop (members-up g built rank up) items fits r.0 r.1 in
    (a.0, a.1, a.2 ∙ sym r.3)
