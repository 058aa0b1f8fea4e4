use Rattle.std.proofs.Common.{◌∙◌, ◌++◌, ◌∷◌, [], ap}
use Rattle.std.proofs.lemmas.Result.{on_ok_weaker}
use Rattle.est_kernel.specs.Plain.{term_of}
use Rattle.est_kernel.specs.StaticCodes.{codes_if, started_codes}
use Rattle.grc_graph.specs.Layers.{Started}
use Rattle.grc_graph.specs.Wires.{Go, End}
use Rattle.grc_graph.specs.Edges.{edge, edges_if, ends_to_ends}
use Rattle.grc_dep.specs.Found.{found_by}
use Rattle.grc_dep.proofs.Founds.{pushed_4}
use Rattle.grc_dep.proofs.forms.push_started_seq.Goals as goal

pub returns : goal.returns
returns c =
    let n = c.args.whole.now.path.0 in
    let m = c.args.first.now.path.0 in
    let k = c.args.second.now.path.0 in
    let l = Started c.args.root.0 in
    let q = term_of c.args.second.now.body.now in
    let entered = c.in_ok-push_edge_if.ensures
    ∙ ap (λ b. c.push_go_to_part.new.pairs.items ++ found_by c.args.lookups.now (edges_if b (edge (End m l 0) (Go k l) ∷ []))) c.passes_in-hands_on.ensures in
    on_ok_weaker c.push_ends_if.result (λ last B. rw (← c.requires.second, ← c.requires.first) (pushed_4 _ _ _ _ _ _ _ _ _ _
    c.in_ok-push_go_to_part.ensures entered c.in_ok-push_later_ends_if.ensures (last ∙ ap (λ b. c.push_later_ends_if.new.pairs.items
    ++ found_by c.args.lookups.now (ends_to_ends (codes_if b (started_codes q)) k l n l)) c.passes_in-hands_on.ensures))) c.push_ends_if.ensures
