use Rattle.est_kernel.proofs.RunLaws.{runs_where_each_reacts_lem, run_answers_each_event_lem, prefix_has_prefix_of_answers_lem}
use Rattle.est_kernel.proofs.laws.runs_are_reactions.Goals as goal

pub returns : goal.returns
returns c = record {
  reactions = runs_where_each_reacts_lem;
  events = run_answers_each_event_lem;
  prefixes = prefix_has_prefix_of_answers_lem;
}
