use Rattle.std.proofs.Common.{◌≡◌, ◌≤◌}
use Rattle.grc_cycles.specs.Cuts.{count_below, ends_at, top_below}
use Rattle.grc_cycles.proofs.counting.count_ends.Given as goal

abbrev pub invariant-loop-place : goal.invariant-loop-place
invariant-loop-place l = record {
  reached : l.reached ≡ top_below l.places l.pairs l.place;
  is : l.count ≡ count_below l.place (ends_at l.places l.pairs);
  low : l.count ≤ l.place;
}
