use Rattle.std.proofs.Common.{map}
use Rattle.net_ir.specs.Runs.{netlist_of}
use Rattle.cec_opt_texts.specs.Related.{named_relation}
use Rattle.cec_opt_texts.proofs.Keeping.{blif-keeps}
use Rattle.cec_opt_texts.proofs.texts.optimized_blif.Goals as goal

pub returns-clause-keeps : goal.returns-clause-keeps
returns-clause-keeps c =
    blif-keeps c.args.text.now (map named_relation c.args.given.now) c.in_ok-written.written.items (netlist_of c.in_ok-net.net)
    c.in_ok-net.ensures.small c.in_ok-written.ensures.means

pub returns-clause-small : goal.returns-clause-small
returns-clause-small c = record { net = netlist_of c.in_ok-net.net; small = c.in_ok-net.ensures.small; is = c.in_ok-written.ensures.text }
