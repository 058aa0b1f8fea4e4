use Rattle.grc_share_laws.proofs.SharedRuns.{shared_runs_answer_lem}
use Rattle.grc_share_laws.proofs.laws.shared_runs_answer.Goals as goal

pub returns : goal.returns
returns c = shared_runs_answer_lem
