use Rattle.std.proofs.Common.{◌≡◌, ◌∙◌, map, arith}
use Rattle.std.proofs.lemmas.Grind.{common_steps}
use Rattle.est_kernel.specs.Plain.{program_of}
use Rattle.grc_graph.specs.PlainGraphs.{names_of}
use Rattle.grc_graph.specs.TreeForms.{tree_node}
use Rattle.grc_list.specs.Listings.{listing}
use Rattle.grc_list.proofs.listing.list.Goals as goal

pub returns : goal.returns
returns c =
    let g = c.args.graph.now in
    let p = program_of g.program in
    let e : c.put_wires.new.text.items ≡ listing p (names_of g) (map tree_node g.tree.nodes.items) = grind (arith, common_steps) in
    e ∙ (λ i. listing p (c.requires.wires i) (g.laid_out.tree i))
