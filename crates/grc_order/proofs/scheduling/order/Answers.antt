use Rattle.std.proofs.Common.{arith}
use Rattle.grc_order.proofs.Placing.{some_ready, IsWireOrder-placed}
use Rattle.grc_order.proofs.scheduling.order.Goals as goal

pub place_next-requires-clause-some_ready : goal.place_next-requires-clause-some_ready
place_next-requires-clause-some_ready g c =
    some_ready _ _ _ _ _ _ c.loop.invariant.schedule c.args.edges.now.are_edges c.requires (omega (arith, c.loop.invariant.placed))

pub returns : goal.returns
returns g c = IsWireOrder-placed _ _ _ _ _ c.loop.invariant.schedule (omega (arith, c.loop.invariant.placed))
