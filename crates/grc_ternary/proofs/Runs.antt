-- A program and the least solutions of its graph, from instant to instant.
use Rattle.std.proofs.Common.{◌≡◌, ◌==◌, Bool, List, length, Some, sym, ap, ◌∙◌, refl}
use Rattle.est_kernel.specs.Plain.{Program, given_count, interface_of}
use Rattle.est_kernel.specs.Reactions.{Reaction, react}
use Rattle.est_kernel.specs.StaticCodes.{NoInstantLoop}
use Rattle.est_kernel.specs.Terms.{Term}
use Rattle.est_kernel.specs.WellFormed.{IsWellFormed}
use Rattle.est_kernel.specs.WellFormed as programs
use Rattle.grc_graph.specs.GraphRuns.{graph_of, next_state, shown}
use Rattle.grc_graph.specs.Walk.{State}
use Rattle.grc_solutions_laws.specs.GraphWalks.{shown_answer}
use Rattle.grc_solutions_laws.proofs.Exports.{codes_are_shown_lem, next_state_is_kept_lem, program_kernel}
use Rattle.grc_ternary.specs.LeastSolutions.{IsKnown, IsLeast, Statuses, true_wires}
use Rattle.grc_ternary.specs.RunLaws.{LeavesTerm, ProgramsRunByLeastSolutions, RunsByLeastSolutions, ShowsReaction}
use Rattle.grc_ternary.proofs.Reactions.{known_reacts_lem, least_is_there_lem, reacts_known_lem}

module _ (p : Program) (formed : IsWellFormed p) (kernels : programs.IsKernel p.body) (no_loop : NoInstantLoop p.body) where
  -- a reaction, and the least solution of the same instant
  pub same_instant : (r : Term) (q : State) (event : List Bool) (x : Reaction) (T : Statuses) → LeavesTerm p r q → length event ≡ given_count p
      → react (interface_of p) r event ≡ Some x → IsLeast (graph_of p) q event T → IsKnown T
      → ShowsReaction p x T × LeavesTerm p x.residual (next_state (graph_of p) q event (true_wires T))
  same_instant r q event x T match width is least known =
      let V = true_wires T in
      let kernel = program_kernel p formed kernels in
      let found = known_reacts_lem p q event T formed kernels no_loop match.state match.leaves width least known in
      let kept = next_state_is_kept_lem p q event V kernel no_loop match.state match.leaves found.0 in
      let code = codes_are_shown_lem p q event V kernel no_loop match.state found.0 in
      let both = sym is ∙ ap (λ t. react (interface_of p) t event) match.term ∙ found.1 in
      let same : x ≡ _ = cc both in
      let paused = sym (kept.3 ∙ ap (λ k. k == 1) (sym code)) in (
        ap (λ (y : Reaction). shown_answer y.answer) same ∙ (λ i. record { outputs = (shown (graph_of p) V).outputs; paused = paused i }),
        record { term = ap (λ (y : Reaction). y.residual) same; state = kept.1; leaves = kept.2 },
      )

  moves_to_graph : (r : Term) (q : State) (event : List Bool) (x : Reaction) → LeavesTerm p r q → length event ≡ given_count p
      → react (interface_of p) r event ≡ Some x → (T : Statuses) × IsLeast (graph_of p) q event T × IsKnown T
  moves_to_graph r q event x match width is =
      let found = least_is_there_lem p q event (program_kernel p formed kernels) in (
        found.0,
        found.1,
        reacts_known_lem p q event found.0 x formed kernels no_loop match.state match.leaves width found.1
            (ap (λ t. react (interface_of p) t event) (sym match.term) ∙ is),
      )

  pub moves_to_program : (q : State) (r : Term) (event : List Bool) (T : Statuses) → LeavesTerm p r q → length event ≡ given_count p
      → IsLeast (graph_of p) q event T → IsKnown T → (x : Reaction) × (react (interface_of p) r event ≡ Some x)
  moves_to_program q r event T match width least known =
      let found = known_reacts_lem p q event T formed kernels no_loop match.state match.leaves width least known in
      (_, ap (λ t. react (interface_of p) t event) match.term ∙ found.1)

  runs_by : RunsByLeastSolutions p
  runs_by = record {
    to_graph = record {
      agrees = record {
        starts = record { term = refl; state = tt; leaves = tt };
        steps = λ r q event x T match width is least. same_instant r q event x T match width is least.0 least.1;
      };
      moves = λ r q event x match width is.
          let found = moves_to_graph r q event x match width is in
          (found.0, (found.1, found.2));
    };
    to_program = record {
      agrees = record {
        starts = record { term = refl; state = tt; leaves = tt };
        steps = λ q r event T x match width least is. same_instant r q event x T match width is least.0 least.1;
      };
      moves = λ q r event T match width least. moves_to_program q r event T match width least.0 least.1;
    };
  }

pub programs_run_by_lem : ProgramsRunByLeastSolutions
programs_run_by_lem p formed kernels no_loop = runs_by p formed kernels no_loop
