use Rattle.std.proofs.Common.{◌≡◌, subst, arith}
use Rattle.cec_prove_covers.specs.Portions.{HasLines}
use Rattle.cec_prove_covers.proofs.portions.push_reaches.Goals as goal

pub returns : goal.returns
returns c = λ before.
    let all : c.loop-number.number ≡ c.args.end = omega arith in
    subst (λ n. HasLines c.args.asked.now n c.loop-number.lines) all (c.loop-number.invariant before)
