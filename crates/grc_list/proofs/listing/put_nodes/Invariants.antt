use Rattle.std.proofs.Common.{◌≡◌, ◌++◌, map, drop}
use Rattle.std.specs.Prelude.{flat_map}
use Rattle.est_kernel.specs.Plain.{term_of}
use Rattle.grc_graph.specs.TreeForms.{tree_node}
use Rattle.grc_list.specs.Listings.{node_line}
use Rattle.grc_list.proofs.listing.put_nodes.Given as goal

-- what is written, and what is still to write, are the whole
abbrev pub invariant-loop-node : goal.invariant-loop-node
invariant-loop-node l =
    l.text.items ++ flat_map (node_line (term_of l.places.body.now)) (map tree_node (drop l.node-index l.tree.nodes.items))
    ≡ l.fn.text.items ++ flat_map (node_line (term_of l.places.body.now)) (map tree_node l.tree.nodes.items)
