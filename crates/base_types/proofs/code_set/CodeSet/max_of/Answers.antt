use mathlib.Core.Path.{fun_ext}
use Rattle.base_types.specs.CodeSet.{members}
use Rattle.base_types.proofs.Bits.{bit-maxima}
use Rattle.base_types.proofs.code_set.CodeSet.max_of.Goals as goal

pub returns : goal.returns
unfolding members
returns c = rw c.from_bits.ensures (fun_ext (bit-maxima c.args.self.bits c.args.other.bits _ _ c.args.self.within c.args.other.within c.from_least-2.ensures
    c.from_least.ensures))
