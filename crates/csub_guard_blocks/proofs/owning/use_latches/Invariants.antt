use Rattle.std.proofs.Common.{◌≡◌, ℕ, ◌==◌, length, take}
use Rattle.std.specs.Prelude.{if◌then◌else◌}
use Rattle.std.specs.List.{list_any}
use Rattle.csub_guard_blocks.specs.Owners.{Mixed}
use Rattle.csub_guard_blocks.specs.Usages.{used}
use Rattle.csub_guard_blocks.proofs.owning.use_latches.Given as goal

abbrev pub invariant-loop-latch : goal.invariant-loop-latch
invariant-loop-latch l = record {
  count : length l.usages ≡ length l.initial.usages;
  says : (n : ℕ) → used l.usages n
      ≡ (if list_any (λ a. a.from.0 == n) (take l.latch-index l.latches) then Mixed else used l.initial.usages n);
}
