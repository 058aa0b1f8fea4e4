use Rattle.std.proofs.lemmas.Result.{on_ok_weaker}
use Rattle.grc_dep.proofs.Founds.{pushed_6}
use Rattle.grc_dep.proofs.tested.push_started_present.Goals as goal

pub returns : goal.returns
returns c =
    on_ok_weaker c.push_ends_if-2.result (λ last B e. rw (← c.requires.second, ← c.requires.first) (pushed_6 _ _ _ _ _ _ _ _ _ _ _ _ _ _
    c.in_ok-push_go_to_part.ensures c.in_ok-push_go_to_part-2.ensures (c.in_ok-push_test_if.ensures B e) (c.in_ok-push_test_if-2.ensures B e)
    c.in_ok-push_ends_if.ensures last)) c.push_ends_if-2.ensures
