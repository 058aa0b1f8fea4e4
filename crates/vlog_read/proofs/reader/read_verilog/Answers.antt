use Rattle.std.proofs.Common.{arith}
use Rattle.std.proofs.lemmas.Result.{err_from_is_err_and}
use Rattle.vlog_text.specs.Views.{module_of}
use Rattle.vlog_read.specs.Sources.{plain_source}
use Rattle.vlog_read.proofs.ReaderLaws.{names-stop, reads-as}
use Rattle.vlog_read.proofs.reader.read_verilog.Goals as goal

pub returns-in_err-check_names-clause-refuses : goal.returns-in_err-check_names-clause-refuses
returns-in_err-check_names-clause-refuses c =
    let e = err_from_is_err_and c.from_residual-in_err-check_names.result c.from_residual-in_err-check_names.ensures.1 in
    rw (e.1, e.2) (names-stop c.args.text.now (plain_source c.in_ok-source.source) (omega arith) c.in_ok-source.ensures.spells
    c.in_err-check_names.field-0.0 c.in_err-check_names.ensures.fault)

pub returns-clause-reads : goal.returns-clause-reads
returns-clause-reads c =
    reads-as c.args.text.now (plain_source c.in_ok-source.source) (module_of c.in_ok-module_of.field-0) (omega arith) c.in_ok-source.ensures.spells
    c.in_ok-check_names.ensures.fit c.in_ok-module_of.ensures
