use Rattle.std.proofs.Common.{drop, ap, ◌∙◌}
use Rattle.std.proofs.lemmas.List.{drop-drop}
use Rattle.est_expand.proofs.scope.Scope.unbind_all.Goals as goal

pub loop-k-preserved : goal.loop-k-preserved
loop-k-preserved c = c.unbind.ensures ∙ ap (drop 1) c.loop-k.invariant ∙ drop-drop 1 c.loop-k._k c.args.self.now
