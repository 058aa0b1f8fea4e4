use Rattle.net_follow.proofs.Clausal.{keeps-equation}
use Rattle.net_follow.proofs.proving.Prover.assume.Goals as goal

pub returns : goal.returns
returns c =
    keeps-equation c.args.equation c.from_parts.result c.to_left.result c.to_right.result _ _ _ _ c.from_parts.ensures c.to_left.ensures c.to_right.ensures
    c.in_ok-add.ensures c.in_ok-add-2.ensures c.in_ok-add-3.ensures
