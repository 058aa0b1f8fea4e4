use Rattle.std.proofs.Common.{arith}
use Rattle.std.specs.Prelude.{map}
use Rattle.grc_graph.specs.PlainGraphs.{formula_of, instances_of, names_of}
use Rattle.net_gen.proofs.SizeBounds.{gates_few}
use Rattle.net_gen.proofs.generation.generate.Goals as goal

pub returns-clause-linear : goal.returns-clause-linear
returns-clause-linear c =
    let g = c.args.graph.now in
    let few = gates_few g (map (formula_of (instances_of g) (names_of g)) g.equations.items) c.args.order.now.list.items c.requires.order in
    omega (arith, few, c.in_ok-net.ensures.size, c.in_ok-words.ensures.size)
