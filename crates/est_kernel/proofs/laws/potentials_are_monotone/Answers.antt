use Rattle.est_kernel.proofs.PotentialLaws.{must_grows_lem, can_shrinks_lem, may_shrinks_lem}
use Rattle.est_kernel.proofs.laws.potentials_are_monotone.Goals as goal

pub returns : goal.returns
returns c = record { must_grows = must_grows_lem; can_shrinks = can_shrinks_lem; may_shrinks = may_shrinks_lem }
