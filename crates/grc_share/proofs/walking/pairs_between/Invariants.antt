use Rattle.std.proofs.Common.{◌≡◌, take}
use Rattle.grc_share.specs.SharedPairs.{numbered_pairs}
use Rattle.grc_share.proofs.walking.pairs_between.Given as goal

-- the pairs of the edges so far
abbrev pub invariant-loop-from : goal.invariant-loop-from
invariant-loop-from l = l.pairs.items ≡ numbered_pairs l.numbers (take l.from-index l.edges)
