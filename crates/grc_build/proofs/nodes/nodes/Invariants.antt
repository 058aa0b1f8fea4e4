use Rattle.grc_build.proofs.Words.{◌≡◌, length, map, All, IsTrue, node_fits, instances_in, names_in, spot_node, node_form}
use Rattle.grc_build.proofs.TableSpots.{spots_in}
use Rattle.grc_build.proofs.nodes.nodes.Given as goal

abbrev pub invariant-loop-number : goal.invariant-loop-number
invariant-loop-number l =
    (map (node_form (instances_in l.tables.wires) (names_in l.tables.wires)) l.list.items ≡ map spot_node (spots_in l.tables l.number))
    × All (λ x. IsTrue (node_fits (length (instances_in l.tables.wires)) (length (names_in l.tables.wires)) x)) l.list.items
