use Rattle.std.proofs.Common.{◌≡◌, length, false}
use Rattle.base_digraph.specs.Searches.{IsSearchOf, StaysMet, work_of, is_new, state_of}
use Rattle.base_digraph.proofs.search.Search.rank_back_from.Given as goal

abbrev pub decreases-loop-node : goal.decreases-loop-node
decreases-loop-node l = work_of l.self

abbrev pub invariant-loop-node : goal.invariant-loop-node
invariant-loop-node l = record {
  search : IsSearchOf (length l.fn.self.states.items) l.edges l.self;
  stays : StaysMet l.fn.self.states.items l.self.states.items;
  root_met : is_new (state_of l.self.states.items l.root) ≡ false;
}
