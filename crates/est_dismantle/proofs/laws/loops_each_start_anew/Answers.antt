use Rattle.est_dismantle.proofs.DerivedLaws.{loops-each}
use Rattle.est_dismantle.proofs.laws.loops_each_start_anew.Goals as goal

pub returns : goal.returns
returns c = loops-each
