use Rattle.std.proofs.lemmas.Result.{err_from_is_err_and}
use Rattle.blif_text.specs.Plain.{plain_circuit}
use Rattle.blif_run.proofs.TextFaults.{reader-faults, machine-reads, machine-faults}
use Rattle.blif_run.proofs.language.read_machine.Goals as goal

pub returns-in_err-blif-clause-fault : goal.returns-in_err-blif-clause-fault
returns-in_err-blif-clause-fault c =
    let e = err_from_is_err_and c.from_residual.result c.from_residual.ensures.1 in
    rw (e.1, e.2) (reader-faults c.args.text.now c.in_err-blif.field-0.0 c.requires c.in_err-blif.ensures.refuses)

pub returns-clause-reads : goal.returns-clause-reads
returns-clause-reads c =
    machine-reads c.args.text.now (plain_circuit c.in_ok-blif.blif) c.in_ok-blif.ensures.reads.1 c.new.result c.new.ensures.circuit c.new.ensures.acyclic

pub returns-clause-fault : goal.returns-clause-fault
returns-clause-fault c =
    machine-faults c.args.text.now (plain_circuit c.in_ok-blif.blif) c.in_ok-blif.ensures.reads.1 c.new.result c.new.ensures.cyclic
