use Rattle.std.proofs.Common.{◌∙◌, ◌++◌, ap}
use Rattle.std.proofs.lemmas.Result.{on_ok_weaker}
use Rattle.grc_graph.specs.PlainInstances.{layer_of}
use Rattle.grc_graph.specs.Wires.{Go, instance_codes, status_wire}
use Rattle.grc_graph.specs.Edges.{go_to_ends, to_status}
use Rattle.grc_dep.specs.Found.{found_by}
use Rattle.grc_dep.proofs.Founds.{pushed_2}
use Rattle.grc_dep.proofs.instance_edges.push_emit.Goals as goal

pub returns : goal.returns
returns c =
    let w = c.args.lookups.now in
    let n = c.args.whole.now.path.0 in
    let l = layer_of c.args.layer in
    let own = c.in_ok-push_own_ends.ensures ∙ ap (λ t. c.args.pairs.now.items ++ found_by w (go_to_ends (instance_codes t l) n l)) c.requires in
    on_ok_weaker c.push_emission.result (λ last B bound. pushed_2 _ _ _ _ _ _ own (last ∙ ap (λ o. c.push_own_ends.new.pairs.items
    ++ found_by w (to_status (Go n l) o)) (c.status_name-status.ensures ∙ ap (λ b. status_wire b c.args.signal.0 l) bound))) c.push_emission.ensures
