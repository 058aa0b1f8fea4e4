use Rattle.std.proofs.Common.{arith}
use Rattle.net_opt.proofs.Kept.{rank-small}
use Rattle.net_opt.proofs.keeping.kept_names.Goals as goal

pub overflow_cast-number : goal.overflow_cast-number
overflow_cast-number c =
    omega (arith, rank-small c.args.marks.now c.loop-place.place, c.loop-place.invariant.number, c.requires, c.loop-place-test.true)

pub overflow_add-number : goal.overflow_add-number
overflow_add-number c =
    omega (arith, rank-small c.args.marks.now c.loop-place.place, c.loop-place.invariant.number, c.requires, c.loop-place-test.true)
