use mathlib.Core.Path.{fun_ext}
use Rattle.base_types.specs.CodeSet.{members}
use Rattle.base_types.proofs.Bits.{bit-clear, except-above}
use Rattle.base_types.proofs.code_set.CodeSet.without.Goals as goal

pub returns-then-k-lt64 : goal.returns-then-k-lt64
unfolding members
returns-then-k-lt64 c = rw c.from_bits.ensures (fun_ext (bit-clear c.args.self.bits c.args.k c.args.self.within c.if-k-lt64.true))

pub returns-else-k-lt64 : goal.returns-else-k-lt64
unfolding members
returns-else-k-lt64 c = fun_ext (except-above c.args.self.bits c.args.k c.args.self.within c.if-k-lt64.false)
