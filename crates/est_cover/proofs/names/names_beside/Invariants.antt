use Rattle.std.proofs.Common.{◌≤◌, length, map}
use Rattle.est_cover.specs.NewNames.{AreNew}
use Rattle.est_cover.proofs.names.names_beside.Given as goal

abbrev pub invariant-loop-number : goal.invariant-loop-number
invariant-loop-number l = record {
  few : length l.made.items ≤ l.count;
  new : AreNew (map (λ s. s.name) l.given) (map (λ s. s.name) l.made.items);
}
