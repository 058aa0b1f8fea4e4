use Rattle.std.proofs.Common.{◌≡◌, ◌++◌, drop, map}
use Rattle.sat_kernel.specs.Clauses.{opposite}
use Rattle.net_never.proofs.proving.opposites.Given as goal

abbrev pub invariant-loop-literal : goal.invariant-loop-literal
invariant-loop-literal l = l.list.items ++ map opposite (drop l.literal-index l.literals) ≡ map opposite l.literals
