use Rattle.net_unroll.proofs.Along.{known_schedules_settle_lem}
use Rattle.net_unroll.proofs.laws.known_schedules_settle.Goals as goal

pub returns : goal.returns
returns c = known_schedules_settle_lem
