use Rattle.net_cycles.proofs.Finding.{schedules_find_least_lem}
use Rattle.net_cycles.proofs.laws.schedules_find_least.Goals as goal

pub returns : goal.returns
returns c = schedules_find_least_lem c.known_schedules_settle.ensures
