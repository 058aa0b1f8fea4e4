use Rattle.base_digraph.specs.Walks.{JoinsNodes}
use Rattle.test_passes.proofs.digraphs.a_long_chain.Given as goal

abbrev pub invariant-loop-node : goal.invariant-loop-node
invariant-loop-node g l = JoinsNodes 1000001 l.edges.items
