use Rattle.est_kernel.proofs.PotentialLaws.{must_has_one_code_lem}
use Rattle.est_kernel.proofs.laws.must_has_one_code.Goals as goal

pub returns : goal.returns
returns c = must_has_one_code_lem
