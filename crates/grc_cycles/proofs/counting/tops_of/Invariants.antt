use Rattle.std.proofs.Common.{◌≡◌, length, map, take}
use Rattle.std.specs.List.{range_with_len}
use Rattle.grc_cycles.specs.Cuts.{top_at}
use Rattle.grc_cycles.proofs.counting.tops_of.Given as goal

-- the places above the edges so far
abbrev pub invariant-loop-pair : goal.invariant-loop-pair
invariant-loop-pair l = l.tops.items ≡ map (top_at l.places (take l.pair-index l.pairs)) (range_with_len 0 (length l.places))
