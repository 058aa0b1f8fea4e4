use Rattle.net_unroll.proofs.Along.{schedules_stay_below_lem}
use Rattle.net_unroll.proofs.laws.schedules_stay_below.Goals as goal

pub returns : goal.returns
returns c = schedules_stay_below_lem
