-- Contract: that a program and the least solutions of its graph do the same from instant to instant.
use Rattle.std.specs.Prelude.{◌≡◌, length}
use Rattle.est_kernel.specs.Plain.{Program, given_count}
use Rattle.est_kernel.specs.ProgramMachine.{program_machine}
use Rattle.est_kernel.specs.Reactions.{Reaction}
use Rattle.est_kernel.specs.StaticCodes.{NoInstantLoop}
use Rattle.est_kernel.specs.Terms.{Term}
use Rattle.est_kernel.specs.WellFormed.{IsWellFormed}
use Rattle.est_kernel.specs.WellFormed as programs
use Rattle.grc_graph.specs.GraphRuns.{graph_of, shown}
use Rattle.grc_graph.specs.Selected.{IsState}
use Rattle.grc_graph.specs.Walk.{State, remaining}
use Rattle.grc_solutions_laws.specs.GraphWalks.{SelectsLeaves, shown_answer}
use Rattle.grc_ternary.specs.LeastSolutions.{Statuses, true_wires}
use Rattle.grc_ternary.specs.TriRuns.{tri_machine}
use Rattle.base_machines.specs.Machines.{Follows}

-- what is seen of a reaction is what the graph shows where these are its wires
abbrev pub ShowsReaction : Program → Reaction → Statuses → Type 0
ShowsReaction p x T = shown_answer x.answer ≡ shown (graph_of p) (true_wires T)

-- a state leaves this term of a program's body
pub record LeavesTerm (p : Program) (r : Term) (q : State) : Type 0 where
  pub term : r ≡ remaining q p.body
  pub state : IsState q p.body
  pub leaves : SelectsLeaves q p.body

-- A program and the machine of least solutions of its graph follow each other, on events with a value for each given
-- signal: each has an instant where the other one has, what is seen of both is the same, and so it goes on.
pub record RunsByLeastSolutions (p : Program) : Type 0 where
  pub to_graph : Follows (program_machine p) (tri_machine (graph_of p)) (λ event. length event ≡ given_count p)
      (ShowsReaction p) (LeavesTerm p)
  pub to_program : Follows (tri_machine (graph_of p)) (program_machine p) (λ event. length event ≡ given_count p)
      (λ T x. ShowsReaction p x T) (λ q r. LeavesTerm p r q)

-- So it is of each program in which no loop is instantaneous, whether its dependency relation has a cycle or none.
abbrev pub ProgramsRunByLeastSolutions : Type 0
ProgramsRunByLeastSolutions =
    (p : Program) → IsWellFormed p → programs.IsKernel p.body → NoInstantLoop p.body → RunsByLeastSolutions p
