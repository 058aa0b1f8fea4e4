use Rattle.std.proofs.Common.{refl}
use Rattle.std.proofs.lemmas.Bool.{le-ltb}
use Rattle.base_types.specs.CodeSet.{members}
use Rattle.base_types.proofs.Bits.{bit-tested, bit-above}
use Rattle.base_types.proofs.code_set.CodeSet.has.Goals as goal

pub returns-then-k-lt64 : goal.returns-then-k-lt64
unfolding members
returns-then-k-lt64 c = bit-tested c.args.self.bits c.args.k

pub returns-else-k-lt64 : goal.returns-else-k-lt64
unfolding members
returns-else-k-lt64 c = rw (bit-above c.args.self.bits c.args.k c.args.self.within c.if-k-lt64.false, le-ltb c.args.k 64 c.if-k-lt64.false) refl
