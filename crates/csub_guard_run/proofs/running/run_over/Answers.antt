use Rattle.std.proofs.Common.{◌≡◌, sym, ap, ◌∙◌, arith, map, Ok, Some, None}
use Rattle.base_types.specs.Relations.{relation_of}
use Rattle.csub_guard_run.specs.Totals.{worth, worth_of}
use Rattle.csub_guard_run.proofs.CountedRuns.{runs-by, counted-by}
use Rattle.csub_guard_run.proofs.Totals.{trace-counted}
use Rattle.run_trace_io.specs.Answers.{beginning}
use Rattle.run_over_traces.proofs.Exports.{traces-begin}
use Rattle.csub_guard_run.proofs.running.run_over.Goals as goal

pub returns-in-Some : goal.returns-in-Some
returns-in-Some g c =
    let m = c.args.machine in
    let last = c.run_trace.new.runner in
    let names = c.args.interface.outgoing.items in
    counted-by m last names _ _ _ _ _ _ _ c.write_count.result
    (runs-by m last names _ _ (Ok c.in-Ok.field-0) c.requires.fresh c.in-Ok.ensures)
    (worth c.in-Some.total) (sym c.sum.ensures.worth ∙ ap worth_of c.in-Some.is) c.write_count.ensures

-- the calls of a trace run fewer assignments than a counter holds
pub unreachable-requires : goal.unreachable-requires
unreachable-requires g c =
    let last = c.run_trace.new.runner in
    let given = c.args.interface.given.items in
    let trace = beginning c.args.trace.items given (map relation_of c.args.interface.relations.items) in
    let ran = c.in-Ok.ensures in
    let some = trace-counted c.args.machine last trace ran.0 c.requires.fresh (omega arith) c.requires.short
    (traces-begin trace ran.0 None ran.2) ran.3.shown.1 in
    let none : last.total ≡ None = sym c.sum.ensures.worth ∙ ap worth_of c.in-None.is in
    let both : None ≡ Some some.0 = sym none ∙ some.1 in
    cc
