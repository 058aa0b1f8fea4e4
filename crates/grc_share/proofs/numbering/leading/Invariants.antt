use Rattle.std.proofs.Common.{◌≡◌, take}
use Rattle.grc_share.specs.LeastMembers.{ArePlaces, leaders}
use Rattle.grc_share.proofs.numbering.leading.Given as goal

-- those among the first, and their places
abbrev pub invariant-loop-w : goal.invariant-loop-w
invariant-loop-w l = record {
  least : l.least.items ≡ leaders 0 (take l.w l.members);
  places : ArePlaces l.members l.w l.least.items l.numbers.items;
}
