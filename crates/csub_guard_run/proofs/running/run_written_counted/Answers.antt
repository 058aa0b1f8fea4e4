use Rattle.std.proofs.Common.{[], refl}
use Rattle.base_types.proofs.Exports.{gains-nothing}
use Rattle.net_ir.specs.Runs.{netlist_of}
use Rattle.csub_guard_run.proofs.CountedRuns.{counts-net}
use Rattle.csub_guard_run.proofs.running.run_written_counted.Goals as goal

pub returns-in-Err : goal.returns-in-Err
returns-in-Err g c = record {
  program = c.requires.means.program;
  describes = c.requires.means.describes;
  ran = ([], [], tt, refl, refl, record { taken = 0; gains = gains-nothing (g.O.Sink.told c.args.out.now) });
}

pub returns-in-Ok : goal.returns-in-Ok
returns-in-Ok g c =
    counts-net c.args.text.now (netlist_of c.args.net.now) c.in-Ok.machine c.args.trace.items _ _ _ _ c.run_over.result c.in-Ok.ensures.program
    c.in-Ok.ensures.fresh c.requires.given c.run_over.ensures
