use Rattle.est_ternary.proofs.Solving.{settle_known, settle_back}
use Rattle.est_ternary.proofs.laws.settled_signals_are_solved.Goals as goal

pub returns : goal.returns
returns c = λ os r E F once. ((λ e. settle_known os r E F once e), settle_back os r E F once)
