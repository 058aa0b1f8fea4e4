use Rattle.std.proofs.Common.{inr, subst}
use Rattle.base_types.specs.Writing.{Wrote}
use Rattle.base_types.proofs.Exports.{stops-early}
use Rattle.cec_text_io.proofs.Exports.{line_after}
use Rattle.cec_opt_commands.proofs.lines.report_after.Goals as goal

pub returns-in-Ok : goal.returns-in-Ok
returns-in-Ok g c = λ before faults line w.
    line_after before _ _ faults _ _ line _
    (subst (Wrote before (g.E.Sink.told c.args.err.now) faults (g.E.Sink.faults c.args.err.now) line) c.in-Ok.is w) c.report.ensures

pub returns-in-Err : goal.returns-in-Err
returns-in-Err g c = λ before faults line w.
    inr (stops-early before _ faults _ line _
    (subst (Wrote before (g.E.Sink.told c.args.err.now) faults (g.E.Sink.faults c.args.err.now) line) c.in-Err.is w))
