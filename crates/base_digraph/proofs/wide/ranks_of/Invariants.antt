use Rattle.std.proofs.Common.{◌≡◌, map, take}
use Rattle.base_digraph.specs.Searches.{rank_in}
use Rattle.base_digraph.proofs.wide.ranks_of.Given as goal

abbrev pub invariant-loop-state : goal.invariant-loop-state
invariant-loop-state l = l.ranks.items ≡ map rank_in (take l.state-index l.states)
