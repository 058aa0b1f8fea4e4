use Rattle.std.proofs.Common.{inr}
use Rattle.net_ir.specs.Runs.{netlist_of}
use Rattle.cec_opt_commands.proofs.counts.cyclic_counts.Goals as goal

pub returns-in-Ok-clause-lines : goal.returns-in-Ok-clause-lines
returns-in-Ok-clause-lines c =
    inr (record {
      net = netlist_of c.in_ok-net.net;
      stands = c.in_ok-net.ensures.compiles;
      cycle = c.args.cycle;
      has_cycle = c.requires.cyclic;
      is_lines = c.in-Ok.ensures.lines;
    })
