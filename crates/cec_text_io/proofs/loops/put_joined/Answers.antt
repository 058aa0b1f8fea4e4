use Rattle.std.proofs.Common.{◌++◌, codes, subst}
use Rattle.std.specs.List.{flat_map}
use Rattle.base_types.specs.Writing.{Appends, Stops}
use Rattle.base_types.proofs.Exports.{wrote-behind, stops-early}
use Rattle.cec_text_io.proofs.loops.put_joined.Goals as goal

pub returns-in-Err : goal.returns-in-Err
returns-in-Err g c =
    rw c.in-Some.ensures.cases.0
    (stops-early _ _ _ _ c.in-Some.first.now (flat_map (λ n. codes " -> " ++ n) c.in-Some.others.now)
    (subst (λ t. Stops (g.E.Sink.told c.args.err.now) (g.E.Sink.told c.write.new.self) (g.E.Sink.faults c.args.err.now) (g.E.Sink.faults c.write.new.self) t)
    c.bytes.ensures c.in-Err.ensures))

pub returns : goal.returns
returns g c =
    rw c.in-Some.ensures.cases.0
    (wrote-behind _ _ _ _ _ _ c.in-Some.first.now (flat_map (λ n. codes " -> " ++ n) c.in-Some.others.now) c.put_others.result
    (subst (λ t. Appends (g.E.Sink.told c.args.err.now) (g.E.Sink.told c.write.new.self) (g.E.Sink.faults c.args.err.now) (g.E.Sink.faults c.write.new.self) t)
    c.bytes.ensures c.in_default-write.ensures) c.put_others.ensures)
