use Rattle.std.proofs.Common.{length, arith}
use Rattle.grc_order.proofs.RunLaws.{splits-at}
use Rattle.grc_order.proofs.edge_runs.begin_behind.Goals as goal

pub returns-then-pairs-place-clause-point : goal.returns-then-pairs-place-clause-point
returns-then-pairs-place-clause-point c =
    splits-at c.args.wire.0 c.args.pairs.now c.loop-place.place c.requires.rise (omega arith) c.loop-place.invariant (λ low. c.if-pairs-place.true)

pub returns-clause-point : goal.returns-clause-point
returns-clause-point c =
    let pairs = c.args.pairs.now in
    splits-at c.args.wire.0 pairs (length pairs) c.requires.rise (omega arith) (λ i h. c.loop-place.invariant i (omega arith)) (λ low. absurd (omega arith))
