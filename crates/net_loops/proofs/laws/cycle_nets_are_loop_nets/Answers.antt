use Rattle.net_loops.proofs.Whole.{cycle_nets_are_loop_nets_lem}
use Rattle.net_loops.proofs.laws.cycle_nets_are_loop_nets.Goals as goal

pub returns : goal.returns
returns c = cycle_nets_are_loop_nets_lem
