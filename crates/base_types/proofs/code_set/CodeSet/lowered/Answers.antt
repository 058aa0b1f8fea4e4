use mathlib.Core.Path.{fun_ext}
use Rattle.base_types.specs.CodeSet.{members}
use Rattle.base_types.proofs.Bits.{bit-lowered}
use Rattle.base_types.proofs.code_set.CodeSet.lowered.Goals as goal

pub returns : goal.returns
unfolding members
returns c = rw c.from_bits.ensures (fun_ext (bit-lowered c.args.self.bits c.args.self.within))
