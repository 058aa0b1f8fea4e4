use Rattle.std.proofs.Common.{◌+◌, ap, arith}
use Rattle.net_gen.proofs.FirstNumbers.{numbers_are_few}
use Rattle.net_gen.proofs.begin.count_before_gates.Goals as goal

pub overflow_cast-first : goal.overflow_cast-first
overflow_cast-first c = omega (arith, (numbers_are_few c.args.graph.now).leaves, c.len.ensures)

pub overflow_add-first-2 : goal.overflow_add-first-2
overflow_add-first-2 c =
    let few = numbers_are_few c.args.graph.now in
    let given = ap (λ p. p.inputs + p.both) c.program-program.ensures in
    omega (arith, few.given, few.leaves, given, c.len.ensures)

pub returns-clause-fits : goal.returns-clause-fits
returns-clause-fits c = let few = numbers_are_few c.args.graph.now in omega (arith, few.given, few.leaves)
