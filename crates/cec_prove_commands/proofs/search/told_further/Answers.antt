use Rattle.std.proofs.Common.{subst}
use Rattle.base_types.specs.Writing.{Wrote}
use Rattle.base_types.proofs.Exports.{stops-early, wrote-behind}
use Rattle.cec_prove_commands.proofs.search.told_further.Goals as goal

pub returns-in-Ok : goal.returns-in-Ok
returns-in-Ok g c = λ before faults lines w.
    wrote-behind before _ _ faults _ _ lines _ c.put_progress.result
    (subst (Wrote before (g.E.Sink.told c.args.err.now) faults (g.E.Sink.faults c.args.err.now) lines) c.in-Ok.is w) c.put_progress.ensures

pub returns-in-Err : goal.returns-in-Err
returns-in-Err g c = λ before faults lines w.
    stops-early before _ faults _ lines _
    (subst (Wrote before (g.E.Sink.told c.args.err.now) faults (g.E.Sink.faults c.args.err.now) lines) c.in-Err.is w)
