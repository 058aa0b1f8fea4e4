use Rattle.est_front.proofs.Lacking.{no_flat_no_expansion}
use Rattle.est_front.proofs.programs.kernel_program.Goals as goal

pub returns-in-Err-clause-lacks : goal.returns-in-Err-clause-lacks
returns-in-Err-clause-lacks c = no_flat_no_expansion _ _ c.in-Err.refusal c.in-Err.ensures.lacks
