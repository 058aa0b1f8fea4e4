use Rattle.std.proofs.Common.{◌≡◌, ◌++◌, map}
use Rattle.std.specs.Prelude.{filter, nat_le}
use Rattle.base_types.specs.CodeSet.{members}
use Rattle.grc_graph.specs.PlainInstances.{instance_of}
use Rattle.grc_graph.specs.Wires.{End, codes_below}
use Rattle.grc_graph.specs.Edges.{edge}
use Rattle.grc_dep.specs.Found.{found_by}
use Rattle.grc_dep.proofs.linking.push_to_ends_above.Given as goal

-- the edges of the codes so far
abbrev pub invariant-loop-above : goal.invariant-loop-above
invariant-loop-above l =
    l.pairs.items ≡ l.fn.pairs.items ++ found_by l.lookups
    (map (λ k. edge (End (instance_of l.part).path (instance_of l.part).layer l.code) (End (instance_of l.whole).path (instance_of l.whole).layer k))
    (filter (λ k. nat_le l.code k) (codes_below l.above (members l.whole_codes))))
