use Rattle.std.proofs.Common.{◌∙◌, ◌++◌, ◌∷◌, [], ap}
use Rattle.std.proofs.lemmas.Result.{on_ok_weaker}
use Rattle.est_kernel.specs.Plain.{term_of}
use Rattle.est_kernel.specs.StaticCodes.{codes_if, started_codes, resumed_codes}
use Rattle.grc_graph.specs.Layers.{Resumed, Started}
use Rattle.grc_graph.specs.Wires.{Go, End}
use Rattle.grc_graph.specs.Edges.{edge, edges_if, ends_to_ends}
use Rattle.grc_dep.specs.Found.{found_by}
use Rattle.grc_dep.proofs.Founds.{pushed_6}
use Rattle.grc_dep.proofs.forms.push_resumed_seq.Goals as goal

pub returns : goal.returns
returns c =
    let w = c.args.lookups.now in
    let n = c.args.whole.now.path.0 in
    let m = c.args.first.now.path.0 in
    let k = c.args.second.now.path.0 in
    let q = term_of c.args.second.now.body.now in
    let resumes = c.in_ok-push_edge_if.ensures
    ∙ ap (λ b. c.push_go_to_part.new.pairs.items ++ found_by w (edges_if b (edge (Go n Resumed) (Go k Resumed) ∷ []))) c.resumes_after.ensures in
    let starts = c.in_ok-push_edge_if-2.ensures
    ∙ ap (λ b. c.push_edge_if.new.pairs.items ++ found_by w (edges_if b (edge (End m Resumed 0) (Go k (Started k)) ∷ []))) c.passes_in-hands_on.ensures in
    let goes_on = c.in_ok-push_ends_if.ensures
    ∙ ap (λ b. c.push_later_ends_if.new.pairs.items ++ found_by w (ends_to_ends (codes_if b (resumed_codes q)) k Resumed n Resumed)) c.can_pass.ensures in
    on_ok_weaker c.push_ends_if-2.result (λ last B. rw (← c.requires.second, ← c.requires.first) (pushed_6 _ _ _ _ _ _ _ _ _ _ _ _ _ _
    c.in_ok-push_go_to_part.ensures resumes starts c.in_ok-push_later_ends_if.ensures goes_on (last ∙ ap (λ b. c.push_ends_if.new.pairs.items
    ++ found_by w (ends_to_ends (codes_if b (started_codes q)) k (Started k) n Resumed)) c.passes_in-hands_on.ensures))) c.push_ends_if-2.ensures
