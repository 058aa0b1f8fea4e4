use Rattle.std.proofs.Common.{◌≡◌, ◌≤◌, take, count_by}
use Rattle.grc_cycles.proofs.counting.count_true.Given as goal

abbrev pub invariant-loop-mark : goal.invariant-loop-mark
invariant-loop-mark l = record {
  is : l.count ≡ count_by (λ m. m) (take l.mark-index l.marks);
  low : l.count ≤ l.mark-index;
}
