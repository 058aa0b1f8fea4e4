use Rattle.std.proofs.Common.{◌≡◌, ◌++◌, map}
use Rattle.std.specs.Prelude.{flat_map, filter}
use Rattle.csub_text.specs.Written.{assign_line}
use Rattle.csub_guard_blocks.specs.Blocks.{zero_assign, members_between}
use Rattle.csub_guard_blocks.specs.Usages.{owner_in}
use Rattle.csub_guard_blocks.proofs.blocks.put_zeros.Given as goal

abbrev pub invariant-loop-k : goal.invariant-loop-k
invariant-loop-k l =
    l.text.items ≡ l.initial.text.items ++ flat_map assign_line (map zero_assign (filter (λ m. m.shown)
    (members_between l.net.gates.items (map owner_in l.owners) l.begin l.k)))
