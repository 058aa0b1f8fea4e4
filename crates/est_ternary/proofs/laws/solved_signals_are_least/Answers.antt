use Rattle.est_ternary.proofs.Solving.{solved_meets, solved_least}
use Rattle.est_ternary.proofs.laws.solved_signals_are_least.Goals as goal

pub returns : goal.returns
returns c = record { emitted = solved_meets; least = solved_least }
