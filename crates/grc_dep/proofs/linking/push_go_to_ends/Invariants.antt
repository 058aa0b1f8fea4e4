use Rattle.std.proofs.Common.{◌≡◌, ◌++◌, map}
use Rattle.base_types.specs.CodeSet.{members}
use Rattle.grc_graph.specs.PlainInstances.{instance_of}
use Rattle.grc_graph.specs.Wires.{codes_below}
use Rattle.grc_dep.specs.Families.{go_to_end}
use Rattle.grc_dep.specs.Found.{found_by}
use Rattle.grc_dep.proofs.linking.push_go_to_ends.Given as goal

-- the edges of the codes so far
abbrev pub invariant-loop-code : goal.invariant-loop-code
invariant-loop-code l =
    l.pairs.items ≡ l.fn.pairs.items ++ found_by l.lookups (map (go_to_end (instance_of l.at)) (codes_below l.code (members l.codes)))
