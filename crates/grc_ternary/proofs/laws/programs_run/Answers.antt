use Rattle.grc_ternary.proofs.Acyclic.{programs_run_lem}
use Rattle.grc_ternary.proofs.laws.programs_run.Goals as goal

pub returns : goal.returns
returns c = programs_run_lem
