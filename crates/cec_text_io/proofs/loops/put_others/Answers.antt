use Rattle.std.proofs.Common.{◌++◌, codes, subst}
use Rattle.base_types.specs.Writing.{Stops}
use Rattle.base_types.proofs.Exports.{stops-behind, pieces_at}
use Rattle.cec_text_io.proofs.loops.put_others.Goals as goal

pub returns-in-Err : goal.returns-in-Err
returns-in-Err g c =
    rw (← pieces_at (λ name. codes " -> " ++ name) c.loop-name.name-index c.args.names.now c.name-item.result c.loop-name-test.true)
    (stops-behind _ _ _ _ _ _ _ _ _ c.loop-name.invariant
    (subst (λ n. Stops (g.E.Sink.told c.loop-name.err) (g.E.Sink.told c.put_other.new.err) (g.E.Sink.faults c.loop-name.err)
    (g.E.Sink.faults c.put_other.new.err) (codes " -> " ++ n)) c.name-item.is c.in-Err.ensures))
