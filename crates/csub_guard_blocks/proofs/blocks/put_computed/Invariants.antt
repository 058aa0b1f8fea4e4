use Rattle.std.proofs.Common.{◌≡◌, ◌++◌, map}
use Rattle.std.specs.Prelude.{flat_map}
use Rattle.net_ir.specs.Runs.{netlist_of}
use Rattle.csub_text.specs.Written.{assign_line}
use Rattle.csub_guard_blocks.specs.Blocks.{member_assign, members_between}
use Rattle.csub_guard_blocks.specs.Usages.{owner_in}
use Rattle.csub_guard_blocks.proofs.blocks.put_computed.Given as goal

abbrev pub invariant-loop-k : goal.invariant-loop-k
invariant-loop-k l =
    l.text.items ≡ l.initial.text.items ++ flat_map assign_line (map (member_assign (netlist_of l.net))
    (members_between l.net.gates.items (map owner_in l.owners) l.begin l.k))
