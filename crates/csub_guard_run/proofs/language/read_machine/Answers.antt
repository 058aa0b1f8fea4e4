use Rattle.std.proofs.lemmas.Result.{err_from_is_err_and}
use Rattle.csub_guard_run.proofs.TextFaults.{reader-faults}
use Rattle.csub_guard_run.proofs.language.read_machine.Goals as goal

pub returns-in_err-program-clause-fault : goal.returns-in_err-program-clause-fault
returns-in_err-program-clause-fault c =
    let e = err_from_is_err_and c.from_residual.result c.from_residual.ensures.1 in
    rw (e.1, e.2) (reader-faults c.args.text.now c.in_err-program.field-0.0 c.requires c.in_err-program.ensures.refuses)
