use Rattle.grc_ternary.proofs.Runs.{programs_run_by_lem}
use Rattle.grc_ternary.proofs.laws.programs_run_by_least_solutions.Goals as goal

pub returns : goal.returns
returns c = programs_run_by_lem
