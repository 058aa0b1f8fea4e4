use Rattle.std.proofs.Common.{◌≡◌, take}
use Rattle.base_digraph.proofs.ranking.widened.Given as goal

abbrev pub invariant-loop-edge : goal.invariant-loop-edge
invariant-loop-edge l = l.pairs.items ≡ take l.edge-index l.edges
