use Rattle.net_ir.specs.Runs.{netlist_of}
use Rattle.cec_prove_texts.proofs.comparing.second_net.Goals as goal

pub returns-in-Err-clause-fault : goal.returns-in-Err-clause-fault
returns-in-Err-clause-fault c =
    c.second_stop.ensures c.args.first.now c.args.second.now (netlist_of c.args.left.now) c.requires.first c.in-Err.ensures.fault
