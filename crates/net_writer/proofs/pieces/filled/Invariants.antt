use Rattle.std.proofs.Common.{◌≡◌, ◌++◌, ◌-◌, ◌^◌}
use Rattle.net_writer.proofs.pieces.filled.Given as goal

-- what is there, and the text from the place on, are what is to come
abbrev pub invariant-places : goal.invariant-places
invariant-places g l = l.text.items ++ g.P.Places.text_from l.places l.at ≡ l.left ++ g.P.Places.text_from l.places l.place

abbrev pub decreases-places : goal.decreases-places
decreases-places g l = 2 ^ 128 - l.at
