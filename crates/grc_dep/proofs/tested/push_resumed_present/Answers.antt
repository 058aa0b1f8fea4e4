use Rattle.std.proofs.lemmas.Result.{on_ok_weaker}
use Rattle.grc_dep.proofs.Founds.{pushed_4}
use Rattle.grc_dep.proofs.tested.push_resumed_present.Goals as goal

pub returns : goal.returns
returns c =
    on_ok_weaker c.push_ends_if-2.result (λ last B e. rw (← c.requires.second, ← c.requires.first) (pushed_4 _ _ _ _ _ _ _ _ _ _
    c.in_ok-push_go_to_part.ensures c.in_ok-push_go_to_part-2.ensures c.in_ok-push_ends_if.ensures last)) c.push_ends_if-2.ensures
