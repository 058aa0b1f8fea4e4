use Rattle.std.proofs.Common.{◌≡◌, ℕ, ◌<◌, ◌≤◌, ◌-◌, length, slice_index_or, Some}
use Rattle.csub_guard_blocks.specs.Blocks.{head_of}
use Rattle.csub_guard_blocks.specs.Usages.{owner_in}
use Rattle.csub_guard_blocks.specs.declared.owning.Owner.TheVariants as codes
use Rattle.csub_guard_blocks.proofs.blocks.run_end.Given as goal

abbrev pub invariant-loop-end : goal.invariant-loop-end
invariant-loop-end l = record {
  more : l.begin < l.end;
  within : l.end ≤ length l.owners;
  same : (k : ℕ) → l.begin ≤ k → k < l.end → head_of (owner_in (slice_index_or l.owners k codes.Free)) ≡ Some l.head;
}

abbrev pub decreases-loop-end : goal.decreases-loop-end
decreases-loop-end l = length l.owners - l.end
