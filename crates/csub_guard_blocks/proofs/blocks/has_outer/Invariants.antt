use Rattle.std.proofs.Common.{◌≡◌, false, map}
use Rattle.std.specs.List.{list_any}
use Rattle.csub_guard_blocks.specs.Blocks.{members_between}
use Rattle.csub_guard_blocks.specs.Usages.{owner_in}
use Rattle.csub_guard_blocks.proofs.blocks.has_outer.Given as goal

abbrev pub invariant-loop-k : goal.invariant-loop-k
invariant-loop-k l = list_any (λ m. m.shown) (members_between l.net.gates.items (map owner_in l.owners) l.begin l.k) ≡ false
