use Rattle.est_dismantle.proofs.DerivedLaws.{two-copies}
use Rattle.est_dismantle.proofs.laws.repetitions_are_sequences.Goals as goal

pub returns : goal.returns
returns c = two-copies
