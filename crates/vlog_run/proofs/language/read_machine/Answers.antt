use Rattle.std.proofs.lemmas.Result.{err_from_is_err_and}
use Rattle.vlog_text.specs.Views.{module_of}
use Rattle.vlog_run.proofs.TextFaults.{reader-faults, machine-reads, machine-faults}
use Rattle.vlog_run.proofs.language.read_machine.Goals as goal

pub returns-in_err-design-clause-fault : goal.returns-in_err-design-clause-fault
returns-in_err-design-clause-fault c =
    let e = err_from_is_err_and c.from_residual.result c.from_residual.ensures.1 in
    rw (e.1, e.2) (reader-faults c.args.text.now c.in_err-design.field-0.0 c.requires c.in_err-design.ensures.refuses)

pub returns-clause-reads : goal.returns-clause-reads
returns-clause-reads c = machine-reads c.args.text.now c.in_ok-design.design c.in_ok-design.ensures.reads c.new.result c.new.ensures.code c.new.ensures.acyclic

pub returns-clause-fault : goal.returns-clause-fault
returns-clause-fault c =
    machine-faults c.args.text.now (module_of c.in_ok-design.design) c.in_ok-design.ensures.reads c.new.result c.new.ensures.cyclic
