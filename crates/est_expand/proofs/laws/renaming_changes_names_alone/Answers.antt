use Rattle.est_expand.proofs.SameWalks.{flattened-both}
use Rattle.est_expand.proofs.laws.renaming_changes_names_alone.Goals as goal

pub returns : goal.returns
returns c = flattened-both
