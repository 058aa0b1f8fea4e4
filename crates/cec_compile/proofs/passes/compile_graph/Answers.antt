use Rattle.std.proofs.Common.{◌∙◌, arith}
use Rattle.cec_compile.proofs.Joined.{compiled_is, simplified_follows}
use Rattle.cec_compile.proofs.passes.compile_graph.Goals as goal

pub generate-requires-clause-order : goal.generate-requires-clause-order
generate-requires-clause-order g c = c.requires.orders c.in_ok-order.order.list.items c.in_ok-order.ensures

pub returns-clause-follows : goal.returns-clause-follows
returns-clause-follows g c =
    let e = c.in_ok-drawn.ensures in
    let f = c.in_ok-net.ensures in
    simplified_follows c.args.found.graph c.in_ok-order.order c.in_ok-drawn.drawn c.in_ok-net.net c.requires.graph e.interface e.size e.instants e.runs
    f.parts f.instants f.runs

pub returns-clause-compiled : goal.returns-clause-compiled
returns-clause-compiled g c =
    let e = c.in_ok-drawn.ensures in
    let f = c.in_ok-net.ensures in
    compiled_is c.args.found c.in_ok-order.order c.in_ok-net.net c.requires c.in_ok-order.ensures (f.parts.carries ∙ e.order)
    (omega (arith, f.parts.fewer, e.linear)) (returns-clause-follows g c) f.simple
