use Rattle.est_dismantle.proofs.DerivedLaws.{immediate-abortion}
use Rattle.est_dismantle.proofs.laws.immediate_abortions_run_their_rest.Goals as goal

pub returns : goal.returns
returns c = immediate-abortion
