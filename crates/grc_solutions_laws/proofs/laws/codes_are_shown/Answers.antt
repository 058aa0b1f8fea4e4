use Rattle.grc_solutions_laws.proofs.Instants.{codes_are_shown_lem}
use Rattle.grc_solutions_laws.proofs.laws.codes_are_shown.Goals as goal

pub returns : goal.returns
returns c = codes_are_shown_lem
