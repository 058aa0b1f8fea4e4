use Rattle.est_dismantle.proofs.DerivedLaws.{immediate-await}
use Rattle.est_dismantle.proofs.laws.immediate_awaits_end_at_once.Goals as goal

pub returns : goal.returns
returns c = immediate-await
