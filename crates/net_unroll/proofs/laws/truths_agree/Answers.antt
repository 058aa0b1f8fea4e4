use Rattle.net_unroll.proofs.Along.{truths_agree_lem}
use Rattle.net_unroll.proofs.laws.truths_agree.Goals as goal

pub returns : goal.returns
returns c = truths_agree_lem
