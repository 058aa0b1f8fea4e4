use Rattle.std.proofs.Common.{◌∙◌, ◌++◌, ap}
use Rattle.std.proofs.lemmas.Result.{on_ok_weaker}
use Rattle.est_kernel.specs.Plain.{term_of}
use Rattle.grc_graph.specs.Layers.{Started}
use Rattle.grc_graph.specs.Wires.{instance_codes}
use Rattle.grc_graph.specs.Edges.{branch_to_ends}
use Rattle.grc_dep.specs.Found.{found_by}
use Rattle.grc_dep.proofs.Founds.{pushed_4}
use Rattle.grc_dep.proofs.forms.push_started_par.Goals as goal

pub returns : goal.returns
returns c =
    let w = c.args.lookups.now in
    let n = c.args.whole.now.path.0 in
    let l = Started c.args.root.0 in
    let p = term_of c.args.left.now.body.now in
    let q = term_of c.args.right.now.body.now in
    let left = c.in_ok-push_branch_ends.ensures ∙ ap (λ t. c.push_go_to_part-2.new.pairs.items
    ++ found_by w (branch_to_ends (instance_codes p l) (instance_codes t l) c.args.left.now.path.0 n l)) c.requires.whole in
    on_ok_weaker c.push_branch_ends-2.result (λ last B. rw (← c.requires.second, ← c.requires.first) (pushed_4 _ _ _ _ _ _ _ _ _ _
    c.in_ok-push_go_to_part.ensures c.in_ok-push_go_to_part-2.ensures left (last ∙ ap (λ t. c.push_branch_ends.new.pairs.items
    ++ found_by w (branch_to_ends (instance_codes q l) (instance_codes t l) c.args.right.now.path.0 n l)) c.requires.whole))) c.push_branch_ends-2.ensures
