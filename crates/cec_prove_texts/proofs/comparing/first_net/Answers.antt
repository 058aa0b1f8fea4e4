use Rattle.cec_prove_texts.proofs.comparing.first_net.Goals as goal

pub returns-in-Err-clause-fault : goal.returns-in-Err-clause-fault
returns-in-Err-clause-fault c = c.first_stop.ensures c.args.first.now c.args.second.now c.in-Err.ensures.fault
