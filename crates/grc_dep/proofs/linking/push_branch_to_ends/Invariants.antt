use Rattle.std.proofs.Common.{◌≡◌, ◌++◌}
use Rattle.std.specs.Prelude.{flat_map}
use Rattle.base_types.specs.CodeSet.{members}
use Rattle.grc_graph.specs.PlainInstances.{instance_of}
use Rattle.grc_graph.specs.Wires.{codes_below}
use Rattle.grc_dep.specs.Families.{branch_edges}
use Rattle.grc_dep.specs.Found.{found_by}
use Rattle.grc_dep.proofs.linking.push_branch_to_ends.Given as goal

-- the edges of the codes so far
abbrev pub invariant-loop-code : goal.invariant-loop-code
invariant-loop-code l =
    l.pairs.items ≡ l.fn.pairs.items ++ found_by l.lookups
    (flat_map (branch_edges (members l.whole_codes) (instance_of l.part) (instance_of l.whole)) (codes_below l.code (members l.codes)))
