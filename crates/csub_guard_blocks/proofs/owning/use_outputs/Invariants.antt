use Rattle.std.proofs.Common.{◌≡◌, ℕ, ◌==◌, length, take}
use Rattle.std.specs.Prelude.{if◌then◌else◌}
use Rattle.std.specs.List.{list_any}
use Rattle.csub_guard_blocks.specs.Owners.{Mixed}
use Rattle.csub_guard_blocks.specs.Usages.{used}
use Rattle.csub_guard_blocks.proofs.owning.use_outputs.Given as goal

abbrev pub invariant-loop-output : goal.invariant-loop-output
invariant-loop-output l = record {
  count : length l.usages ≡ length l.initial.usages;
  says : (n : ℕ) → used l.usages n
      ≡ (if list_any (λ a. a.net.0 == n) (take l.output-index l.outputs) then Mixed else used l.initial.usages n);
}
