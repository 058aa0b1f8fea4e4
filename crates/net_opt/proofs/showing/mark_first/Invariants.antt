use Rattle.std.proofs.Common.{◌≡◌, ℕ, ◌<◌, ◌≤◌, length, IsTrue}
use Rattle.net_opt.specs.Showing.{marked}
use Rattle.net_opt.proofs.showing.mark_first.Given as goal

abbrev pub invariant-loop-place : goal.invariant-loop-place
invariant-loop-place l = record {
  count : length l.marks.items ≡ length l.initial.marks.items;
  first : (n : ℕ) → n < l.place → IsTrue (marked l.marks.items n);
  others : (n : ℕ) → l.place ≤ n → marked l.marks.items n ≡ marked l.initial.marks.items n;
}
