use Rattle.std.proofs.Common.{◌≡◌, length, map, take}
use Rattle.std.specs.List.{range_with_len}
use Rattle.grc_cycles.specs.Cuts.{is_cut}
use Rattle.grc_cycles.proofs.counting.cuts_of.Given as goal

-- the cuts by the edges so far
abbrev pub invariant-loop-pair : goal.invariant-loop-pair
invariant-loop-pair l = l.cuts.items ≡ map (is_cut l.places (take l.pair-index l.pairs)) (range_with_len 0 (length l.places))
