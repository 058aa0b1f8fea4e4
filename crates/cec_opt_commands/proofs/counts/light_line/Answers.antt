use Rattle.net_ir.specs.Runs.{netlist_of}
use Rattle.cec_opt_commands.proofs.counts.light_line.Goals as goal

pub returns : goal.returns
returns c = λ p h. (netlist_of c.in_ok-net.net, c.in_ok-net.ensures p h, c.in_ok-line.ensures)
