use Rattle.est_kernel.proofs.CodeLaws.{may_keeps_static_codes_lem}
use Rattle.est_kernel.proofs.laws.static_codes_cover_potentials.Goals as goal

pub returns : goal.returns
returns c = may_keeps_static_codes_lem
