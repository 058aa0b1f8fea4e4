use Rattle.grc_solutions_laws.proofs.Instants.{next_state_is_kept_lem}
use Rattle.grc_solutions_laws.proofs.laws.next_state_is_kept.Goals as goal

pub returns : goal.returns
returns c = next_state_is_kept_lem
