use Rattle.est_kernel.proofs.ResidualLaws.{left_completes_as_resumed_lem, trees_are_kernels_lem}
use Rattle.est_kernel.proofs.laws.residuals_complete_as_resumed.Goals as goal

pub returns : goal.returns
returns c = record { trees = trees_are_kernels_lem; residuals = left_completes_as_resumed_lem }
