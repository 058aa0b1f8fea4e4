use Rattle.est_front.proofs.Unrefused.{unrefused}
use Rattle.est_front.proofs.laws.standing_texts_are_not_refused.Goals as goal

pub returns : goal.returns
returns c = unrefused
