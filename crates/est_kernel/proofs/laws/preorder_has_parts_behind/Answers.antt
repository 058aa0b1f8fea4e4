use Rattle.est_kernel.proofs.PreorderLaws.{preorder_places_lem}
use Rattle.est_kernel.proofs.laws.preorder_has_parts_behind.Goals as goal

pub returns : goal.returns
returns c = preorder_places_lem
