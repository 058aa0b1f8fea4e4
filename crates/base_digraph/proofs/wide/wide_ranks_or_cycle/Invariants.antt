use Rattle.std.proofs.Common.{◌≡◌, ℕ, ◌<◌, false, []}
use Rattle.base_digraph.specs.Searches.{IsSearchOf, is_new, state_of}
use Rattle.base_digraph.proofs.wide.wide_ranks_or_cycle.Given as goal

abbrev pub invariant-loop-root : goal.invariant-loop-root
invariant-loop-root l = record {
  search : IsSearchOf l.count l.edges l.search;
  between : l.search.path.items ≡ [];
  met : (node : ℕ) → node < l.root → is_new (state_of l.search.states.items node) ≡ false;
}
