use Rattle.std.proofs.Common.{◌∙◌}
use Rattle.std.proofs.lemmas.Result.{err_from_is_err_and}
use Rattle.blif_text.specs.Plain.{plain_circuit}
use Rattle.blif_run.proofs.Exports.{names-are}
use Rattle.blif_net.proofs.Faults.{loop-fits}
use Rattle.blif_net.proofs.conversion.net_of_circuit.Goals as goal

pub check_interface-requires : goal.check_interface-requires
check_interface-requires c = c.in_ok-resolved.ensures.keys_are ∙ names-are (plain_circuit c.args.blif.now)

pub returns-in_err-order-clause-fault : goal.returns-in_err-order-clause-fault
returns-in_err-order-clause-fault c =
    let e = err_from_is_err_and c.from_residual-in_err-order.result c.from_residual-in_err-order.ensures.1 in
    rw (e.1, e.2) (loop-fits (plain_circuit c.args.blif.now) c.in_err-order.field-0.0 c.in_ok-check_interface.ensures.fits c.in_err-order.ensures.cyclic)
