use Rattle.std.proofs.Common.{◌≡◌, ℕ, ◌<◌, length}
use Rattle.net_ir.specs.Runs.{netlist_of}
use Rattle.csub_guard_blocks.specs.Usages.{region_in}
use Rattle.csub_guard_writer.specs.Regions.{region_by}
use Rattle.csub_guard_writer.proofs.gate_regions.gate_regions.Given as goal

abbrev pub invariant-loop-k : goal.invariant-loop-k
invariant-loop-k l = record {
  count : length l.found.items ≡ l.k;
  are : (j : ℕ) → j < l.k → region_in l.found.items j ≡ region_by (netlist_of l.net) l.regions j;
}
