use Rattle.net_loops.proofs.Quiet.{loop_nets_are_checked_lem}
use Rattle.net_loops.proofs.laws.loop_nets_are_checked.Goals as goal

pub returns : goal.returns
returns c = loop_nets_are_checked_lem c.programs_run_by_least_solutions.ensures
