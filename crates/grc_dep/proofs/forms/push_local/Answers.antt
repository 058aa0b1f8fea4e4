use Rattle.std.proofs.lemmas.Result.{on_ok_weaker}
use Rattle.grc_dep.proofs.Founds.{pushed_2}
use Rattle.grc_dep.proofs.forms.push_local.Goals as goal

pub returns : goal.returns
returns c =
    on_ok_weaker c.push_ends_if.result (λ last B s. rw (← c.requires) (pushed_2 _ _ _ _ _ _ c.in_ok-push_go_to_part.ensures last)) c.push_ends_if.ensures
