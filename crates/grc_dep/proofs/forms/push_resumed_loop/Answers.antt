use Rattle.std.proofs.Common.{◌∙◌, ◌++◌, ◌∷◌, [], ap}
use Rattle.std.proofs.lemmas.Result.{on_ok_weaker}
use Rattle.base_types.specs.Codes.{except}
use Rattle.est_kernel.specs.Plain.{term_of}
use Rattle.est_kernel.specs.StaticCodes.{codes_if, started_codes}
use Rattle.grc_graph.specs.Layers.{Resumed, Started}
use Rattle.grc_graph.specs.Wires.{Go, End}
use Rattle.grc_graph.specs.Edges.{edge, edges_if, ends_to_ends}
use Rattle.grc_dep.specs.Found.{found_by}
use Rattle.grc_dep.proofs.Founds.{pushed_4}
use Rattle.grc_dep.proofs.forms.push_resumed_loop.Goals as goal

pub returns : goal.returns
returns c =
    let n = c.args.whole.now.path.0 in
    let m = c.args.part.now.path.0 in
    let p = term_of c.args.part.now.body.now in
    let again = c.in_ok-push_edge_if.ensures
    ∙ ap (λ b. c.push_go_to_part.new.pairs.items ++ found_by c.args.lookups.now (edges_if b (edge (End m Resumed 0) (Go m (Started m)) ∷ [])))
    c.passes_in-again.ensures in
    on_ok_weaker c.push_later_ends_if-2.result (λ last B at. rw (← c.requires) (pushed_4 _ _ _ _ _ _ _ _ _ _ c.in_ok-push_go_to_part.ensures again
    c.in_ok-push_later_ends_if.ensures (last ∙ ap (λ b. c.push_later_ends_if.new.pairs.items
    ++ found_by c.args.lookups.now (ends_to_ends (codes_if b (except 0 (started_codes p))) m (Started m) n Resumed)) c.passes_in-again.ensures)))
    c.push_later_ends_if-2.ensures
