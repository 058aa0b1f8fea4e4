use Rattle.std.proofs.Common.{◌∙◌, ◌++◌, ◌∷◌, [], ap}
use Rattle.std.proofs.lemmas.Result.{on_ok_weaker}
use Rattle.est_kernel.specs.Plain.{expression_of}
use Rattle.est_kernel.specs.StaticCodes.{resumed_codes}
use Rattle.grc_graph.specs.Layers.{Resumed}
use Rattle.grc_graph.specs.Wires.{Go, End}
use Rattle.grc_graph.specs.Edges.{edge, edges_if, test_to}
use Rattle.grc_dep.specs.Found.{found_by}
use Rattle.grc_dep.proofs.Founds.{pushed_5}
use Rattle.grc_dep.proofs.tested.push_resumed_suspend.Goals as goal

pub returns : goal.returns
returns c =
    let w = c.args.lookups.now in
    let n = c.args.whole.now.path.0 in
    let m = c.args.part.now.path.0 in
    let e = expression_of c.args.test.now.test.now in
    let pauses = c.pauses_in-pauses.ensures ∙ ap (λ t. resumed_codes t 1) c.requires.whole in
    let ended = c.in_ok-push_edge_if.ensures
    ∙ ap (λ b. c.push_go_to_part.new.pairs.items ++ found_by w (edges_if b (edge (Go n Resumed) (End n Resumed 1) ∷ []))) pauses in
    on_ok_weaker c.push_ends_if.result (λ last B h. rw (← c.requires.first) (pushed_5 _ _ _ _ _ _ _ _ _ _ _ _ c.in_ok-push_go_to_part.ensures ended
    (c.in_ok-push_test_if.ensures B h ∙ ap (λ b. c.push_edge_if.new.pairs.items ++ found_by w (edges_if b (test_to B e Resumed (Go m Resumed))))
    c.runs_in-runs.ensures)
    (c.in_ok-push_test_if-2.ensures B h ∙ ap (λ b. c.push_test_if.new.pairs.items ++ found_by w (edges_if b (test_to B e Resumed (End n Resumed 1)))) pauses)
    last)) c.push_ends_if.ensures
