use Rattle.grc_solutions_laws.proofs.GraphLaws.{walks_keep_states_lem}
use Rattle.grc_solutions_laws.proofs.laws.walks_keep_states.Goals as goal

pub returns : goal.returns
returns c = walks_keep_states_lem
