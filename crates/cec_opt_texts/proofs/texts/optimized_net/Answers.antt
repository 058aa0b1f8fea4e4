use Rattle.std.proofs.Common.{map}
use Rattle.net_ir.specs.Runs.{netlist_of}
use Rattle.cec_opt_texts.specs.Related.{named_relation}
use Rattle.cec_opt_texts.proofs.Lacking.{given-stop, lacking-input, small-text-net}
use Rattle.cec_opt_texts.proofs.texts.optimized_net.Goals as goal

pub returns-in-Ok-clause-small : goal.returns-in-Ok-clause-small
returns-in-Ok-clause-small c =
    small-text-net c.args.text.now (map named_relation c.args.given.now) (netlist_of c.in-Ok.net) c.optimized_under.result c.in-Ok.ensures.net
    c.optimized_under.ensures.small

pub returns-in-Ok-clause-fault : goal.returns-in-Ok-clause-fault
returns-in-Ok-clause-fault c =
    lacking-input c.args.text.now (map named_relation c.args.given.now) (netlist_of c.in-Ok.net) c.optimized_under.result c.in-Ok.ensures.net
    c.optimized_under.ensures.fault

pub returns-in-Err-clause-fault : goal.returns-in-Err-clause-fault
returns-in-Err-clause-fault c = given-stop c.args.text.now (map named_relation c.args.given.now) c.in-Err.stop c.in-Err.ensures.fault
