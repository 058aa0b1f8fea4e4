use Rattle.std.proofs.Common.{[], refl, map, ap}
use Rattle.base_types.specs.Relations.{relation_of}
use Rattle.base_types.proofs.Exports.{gains-nothing}
use Rattle.csub_guard_run.specs.Ends.{shows_nothing}
use Rattle.csub_guard_run.proofs.CountedRuns.{counts-program}
use Rattle.csub_guard_run.proofs.Showing.{fresh_shows}
use Rattle.csub_guard_run.proofs.running.run_counted.Goals as goal

pub returns-in-Err : goal.returns-in-Err
returns-in-Err g c = (
  [],
  [],
  tt,
  record { answers = []; shown = fresh_shows c.args.machine c.requires.fresh.calls [] [] (shows_nothing c.args.machine); lines = refl },
  refl,
  record { taken = 0; gains = gains-nothing (g.O.Sink.told c.args.out.now) },
)

pub returns-in-Ok : goal.returns-in-Ok
returns-in-Ok g c =
    let e = c.in-Ok.ensures in
    counts-program c.args.machine c.args.trace.items _ _ _ _ c.run_over.result c.requires.fresh e.outgoing e.given (ap (map relation_of) e.relations)
    c.run_over.ensures
