use Rattle.std.proofs.Common.{◌≡◌, ℕ, ◌<◌, false, ◌==◌, get_or}
use Rattle.blif_read.proofs.lines.place_of.Given as goal

-- no byte before this place is the one
abbrev pub invariant-loop-at : goal.invariant-loop-at
invariant-loop-at l = (k : ℕ) → k < l.at → (get_or l.bytes k 0 == l.byte) ≡ false
