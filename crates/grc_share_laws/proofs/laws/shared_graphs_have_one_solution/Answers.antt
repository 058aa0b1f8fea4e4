use Rattle.grc_share_laws.proofs.SharedOnce.{shared_graphs_have_one_solution_lem}
use Rattle.grc_share_laws.proofs.laws.shared_graphs_have_one_solution.Goals as goal

pub returns : goal.returns
returns c = shared_graphs_have_one_solution_lem
