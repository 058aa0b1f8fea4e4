use Rattle.std.proofs.Common.{◌≡◌, ℕ, ◌||◌, ◌==◌, length, take}
use Rattle.std.specs.List.{list_any}
use Rattle.net_simp.specs.Renaming.{stand_in}
use Rattle.net_simp.specs.Needs.{marked}
use Rattle.net_simp.proofs.needs.mark_latches.Given as goal

abbrev pub invariant-loop-latch : goal.invariant-loop-latch
invariant-loop-latch l = record {
  count : length l.marks ≡ length l.initial.marks;
  says : (n : ℕ) → marked l.marks n ≡ (marked l.initial.marks n || list_any (λ o. stand_in l.names o.from.0 == n) (take l.latch-index l.latches));
}
