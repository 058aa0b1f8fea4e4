use Rattle.std.proofs.Common.{◌≤◌, ◌^◌, sym, arith}
use Rattle.net_state_enc.proofs.NumberCodes.{width-is}
use Rattle.net_state_enc.proofs.trees.number_width.Goals as goal

pub returns-clause-width : goal.returns-clause-width
returns-clause-width c =
    let power = c.loop-power.invariant.power in
    let fits : c.args.count ≤ 2 ^ c.loop-power.width = omega (arith, c.loop-power-test.false, power) in
    sym (width-is c.args.count c.loop-power.width fits c.loop-power.invariant.less)
