use Rattle.std.proofs.Common.{◌<◌, ◌∙◌, sym, arith}
use Rattle.base_types.specs.CodeSet.{members}
use Rattle.base_types.proofs.Bits.{upto-nothing, bit-from_least, bit-zero}
use Rattle.base_types.proofs.code_set.CodeSet.from_least.Goals as goal

pub returns-then-self-eq0 : goal.returns-then-self-eq0
unfolding members
returns-then-self-eq0 c = λ k _. rw c.if-self-eq0.true (bit-zero k ∙ sym (upto-nothing k))

pub returns-else-self-eq0 : goal.returns-else-self-eq0
unfolding members
returns-else-self-eq0 c =
    let some : 0 < c.args.self.bits = omega (arith, c.if-self-eq0.false) in bit-from_least c.args.self.bits some c.args.self.within
