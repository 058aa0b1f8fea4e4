use Rattle.std.proofs.Common.{◌≡◌, take}
use Rattle.grc_share.specs.SharedPairs.{numbered_edges}
use Rattle.grc_share.proofs.edges.numbered_edges.Given as goal

-- those of the edges so far
abbrev pub invariant-loop-from : goal.invariant-loop-from
invariant-loop-from l = l.pairs.items ≡ numbered_edges l.numbers (take l.from-index l.edges)
