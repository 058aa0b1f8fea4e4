use Rattle.grc_ternary.proofs.Acyclic.{graph_runs_are_runs_lem}
use Rattle.grc_ternary.proofs.laws.graph_runs_are_runs.Goals as goal

pub returns : goal.returns
returns c = graph_runs_are_runs_lem
