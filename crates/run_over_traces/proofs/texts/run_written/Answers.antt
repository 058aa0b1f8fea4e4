use Rattle.net_ir.specs.Runs.{netlist_of}
use Rattle.run_over_traces.proofs.Stepping.{runs-shown}
use Rattle.run_over_traces.proofs.Written.{runs-net}
use Rattle.run_over_traces.proofs.texts.run_written.Goals as goal

pub returns-in-Ok : goal.returns-in-Ok
returns-in-Ok g c =
    runs-net _ c.in-Ok.read (netlist_of c.args.net.now) c.in-Ok.ensures.shows c.args.trace.items _ _ _ _ c.run_trace.result c.requires.given
    (runs-shown g.L.Machine.Runner.shows g.L.Machine.Runner.becomes c.run_trace.new.runner _ c.in-Ok.read _ _ c.run_trace.result c.run_trace.ensures)
