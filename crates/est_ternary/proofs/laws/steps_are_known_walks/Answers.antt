use Rattle.est_ternary.proofs.Steps.{step_known, known_step, step_walk_codes, step_walk_signals}
use Rattle.est_ternary.proofs.laws.steps_are_known_walks.Goals as goal

pub returns : goal.returns
returns c = record {
  known = step_known;
  steps = known_step;
  walked = λ p E x is. (step_walk_signals p E x is, step_walk_codes p E x is);
}
