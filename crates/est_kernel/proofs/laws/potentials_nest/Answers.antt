use Rattle.est_kernel.proofs.PotentialLaws.{must_lies_in_can_lem, can_lies_in_may_lem}
use Rattle.est_kernel.proofs.laws.potentials_nest.Goals as goal

pub returns : goal.returns
returns c = record { must_in_can = must_lies_in_can_lem; can_in_may = can_lies_in_may_lem }
