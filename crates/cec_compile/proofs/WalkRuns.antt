-- A run of a program's graph is its walk from instant to instant.
use Rattle.std.proofs.Common.{◌≡◌, List, [], ◌∷◌, length, ap, subst}
use Rattle.base_types.specs.Items.{Item, Event, Reset, EachEvent}
use Rattle.est_kernel.specs.Plain.{Program, given_count}
use Rattle.est_kernel.specs.StaticCodes.{NoInstantLoop}
use Rattle.base_machines.specs.Machines.{IsRunFrom}
use Rattle.grc_graph.specs.GraphRuns.{graph_of, next_state, IsGraphRun}
use Rattle.grc_graph.specs.Readings.{Valuation}
use Rattle.grc_graph.specs.Selected.{HasExitCodes, IsState}
use Rattle.grc_graph.specs.Walk.{State, Initial, Selecting}
use Rattle.grc_solutions_laws.specs.GraphWalks.{SelectsLeaves, graph_walk}
use Rattle.grc_solutions_laws.proofs.Exports.{next_state_is_kept_lem, equations_are_the_walk_lem}
use Rattle.cec_compile.specs.WireNames.{walk_machine}

module _ (p : Program) (kernel : HasExitCodes p.body) (no_loop : NoInstantLoop p.body) where
  pub run_walks : (items : List Item) (q : State) (Vs : List Valuation) → IsState q p.body → SelectsLeaves q p.body
      → EachEvent (λ event. length event ≡ given_count p) items → IsGraphRun (graph_of p) q items Vs → IsRunFrom (walk_machine p) q items Vs
  run_walks [] q [] state leaves wide run = tt
  run_walks [] q (V ∷ Vs) state leaves wide run = absurd run
  run_walks (Event event ∷ items) q [] state leaves wide run = absurd run
  run_walks (Event event ∷ items) q (V ∷ Vs) state leaves wide run =
      let next = next_state_is_kept_lem p q event V kernel no_loop state leaves run.0 in
      let same : next_state (graph_of p) q event V ≡ Selecting (graph_walk p q event V).kept = ap Selecting (λ i m. next.0 m i) in (
        (equations_are_the_walk_lem p q event V kernel no_loop state wide.0).0 run.0,
        subst (λ s. IsRunFrom (walk_machine p) s items Vs) same (run_walks items (next_state (graph_of p) q event V) Vs next.1 next.2 wide.1 run.1),
      )
  run_walks (Reset ∷ items) q Vs state leaves wide run = run_walks items Initial Vs tt tt wide run
