use Rattle.std.proofs.Common.{◌<◌, ◌++◌, length, map, sym, ap, ◌∙◌, arith}
use Rattle.std.specs.Prelude.{filter}
use Rattle.std.proofs.lemmas.List.{take_all}
use Rattle.est_kernel.specs.Plain.{program_of}
use Rattle.grc_graph.specs.GraphRuns.{program_spots}
use Rattle.grc_graph.specs.Nodes as plain
use Rattle.grc_share.specs.Renamings.{node_at}
use Rattle.grc_share.specs.SharedGraphs.{is_least, renamed_node}
use Rattle.grc_share.specs.SharedInstances.{body_sharing}
use Rattle.grc_share.proofs.EmissionLists.{next-least, spots-many}
use Rattle.grc_share.proofs.naming.shared_node_list.Goals as goal

pub loop-i-preserved : goal.loop-i-preserved
loop-i-preserved c =
    let g = c.args.graph.now in
    let p = program_of g.program in
    let i = c.loop-i.i in
    let low : i < length g.instances.list.items = omega (arith, g.indices.nodes_all) in
    record {
      nodes = c.in_ok-push_node.ensures.gained ∙ ap (λ xs. xs ++ node_at p i) c.loop-i.invariant.nodes
          ∙ sym (next-least g c.requires.built (is_least (body_sharing p.body)) (λ x. renamed_node (body_sharing p.body) (plain.spot_node x)) i low);
      fit = c.in_ok-push_node.ensures.within c.loop-i.invariant.fit;
    }

pub returns-clause-nodes : goal.returns-clause-nodes
returns-clause-nodes c =
    let g = c.args.graph.now in
    let p = program_of g.program in
    let many = spots-many g c.requires.built in
    let all = take_all c.loop-i.i (program_spots p) (omega (arith, many, g.indices.nodes_all)) in
    c.loop-i.invariant.nodes
    ∙ ap (λ xs. map (λ x. renamed_node (body_sharing p.body) (plain.spot_node x)) (filter (is_least (body_sharing p.body)) xs)) all
