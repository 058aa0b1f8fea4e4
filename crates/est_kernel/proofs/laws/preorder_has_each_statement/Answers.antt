use Rattle.est_kernel.proofs.CodeLaws.{length-preorder}
use Rattle.est_kernel.proofs.laws.preorder_has_each_statement.Goals as goal

pub returns : goal.returns
returns c = length-preorder
