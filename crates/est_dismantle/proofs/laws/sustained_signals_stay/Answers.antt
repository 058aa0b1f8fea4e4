use Rattle.est_dismantle.proofs.DerivedLaws.{sustained-signals}
use Rattle.est_dismantle.proofs.laws.sustained_signals_stay.Goals as goal

pub returns : goal.returns
returns c = sustained-signals
