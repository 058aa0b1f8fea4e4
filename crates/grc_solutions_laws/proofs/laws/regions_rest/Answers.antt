use Rattle.grc_solutions_laws.proofs.Regions.{regions_rest_lem}
use Rattle.grc_solutions_laws.proofs.laws.regions_rest.Goals as goal

pub returns : goal.returns
returns c = regions_rest_lem
