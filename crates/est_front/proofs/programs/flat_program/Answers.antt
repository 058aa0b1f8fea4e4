use Rattle.est_front.proofs.Lacking.{no_tree_no_flat}
use Rattle.est_front.proofs.programs.flat_program.Goals as goal

pub returns-in-Err-clause-refusal : goal.returns-in-Err-clause-refusal
returns-in-Err-clause-refusal c = c.in-Err.ensures.refusal _

pub returns-in-Err-clause-lacks : goal.returns-in-Err-clause-lacks
returns-in-Err-clause-lacks c = no_tree_no_flat _ _ c.in-Err.refusal c.in-Err.ensures.lacks
