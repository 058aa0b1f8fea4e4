use Rattle.std.proofs.lemmas.Result.{err_from_is_err_and}
use Rattle.blif_text.specs.Plain.{plain_circuit}
use Rattle.cec_opt_texts.proofs.Lacking.{refused-fault, circuit-fault, net-of-text}
use Rattle.cec_opt_texts.proofs.texts.text_net.Goals as goal

pub returns-in_err-blif-clause-fault : goal.returns-in_err-blif-clause-fault
returns-in_err-blif-clause-fault c =
    let e = err_from_is_err_and c.from_residual.result c.from_residual.ensures.1 in
    rw (e.1, e.2) (refused-fault c.args.text.now c.in_err-blif.field-0.0 c.requires c.in_err-blif.ensures.refuses)

pub returns-clause-net : goal.returns-clause-net
returns-clause-net c =
    net-of-text c.args.text.now (plain_circuit c.in_ok-blif.blif) c.in_ok-blif.ensures.reads.1 c.net_of_circuit.result c.net_of_circuit.ensures.net

pub returns-clause-fault : goal.returns-clause-fault
returns-clause-fault c =
    circuit-fault c.args.text.now (plain_circuit c.in_ok-blif.blif) c.in_ok-blif.ensures.reads.1 c.net_of_circuit.result c.net_of_circuit.ensures.fault
