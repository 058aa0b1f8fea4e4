use Rattle.std.proofs.Common.{arith}
use Rattle.std.proofs.lemmas.Result.{err_from_is_err_and}
use Rattle.csub_guard.specs.Views.{program_of}
use Rattle.csub_guard_read.proofs.ReaderLaws.{names-stop}
use Rattle.csub_guard_read.proofs.reader.read_guarded.Goals as goal

pub returns-in_err-check_names-clause-refuses : goal.returns-in_err-check_names-clause-refuses
returns-in_err-check_names-clause-refuses c =
    let e = err_from_is_err_and c.from_residual-in_err-check_names.result c.from_residual-in_err-check_names.ensures.1 in
    rw (e.1, e.2) (names-stop c.args.text.now (program_of c.in_ok-program.program) (omega arith) c.in_ok-program.ensures.spells
    c.in_err-check_names.field-0.0 c.in_err-check_names.ensures.fault)
