use Rattle.net_ir.specs.Runs.{netlist_of}
use Rattle.csub_guard_blocks.specs.Usages.{region_in, OwnedFrom}
use Rattle.csub_guard_blocks.proofs.owning.owners.Given as goal

abbrev pub invariant-loop-k : goal.invariant-loop-k
invariant-loop-k l = OwnedFrom (netlist_of l.net) (region_in l.regions) l.k l.owners.items l.usages.items
