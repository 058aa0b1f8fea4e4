use Rattle.std.proofs.Common.{[], refl, map, ap}
use Rattle.base_types.specs.Relations.{relation_of}
use Rattle.base_types.proofs.Exports.{gains-nothing}
use Rattle.run_over_traces.proofs.Stepping.{runs-shown}
use Rattle.run_over_traces.proofs.Written.{runs-own}
use Rattle.run_over_traces.proofs.texts.run_text.Goals as goal

pub returns-in-Err : goal.returns-in-Err
returns-in-Err g c =
    let shown = c.requires.shows.told [] [] (g.met.L.Machine.Runner.ends c.args.machine) in (
      [],
      [],
      tt,
      record { answers = []; shown = shown; lines = refl },
      refl,
      record { taken = 0; gains = gains-nothing (g.O.Sink.told c.args.out.now) },
    )

pub returns-in-Ok : goal.returns-in-Ok
returns-in-Ok g c =
    let language = g.L.Language in
    let p = language.plain c.args.machine in
    let e = c.in-Ok.ensures in
    runs-own _ language.shows c.args.machine p (language.outgoing p) (language.given p) c.requires.shows c.args.trace.items _ _ _ _ c.run_trace.result
    e.outgoing e.given (ap (map relation_of) e.relations)
    (runs-shown g.L.Machine.Runner.shows g.L.Machine.Runner.becomes c.run_trace.new.runner _ c.args.machine _ _ c.run_trace.result c.run_trace.ensures)
