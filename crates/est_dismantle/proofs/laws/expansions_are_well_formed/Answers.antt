use Rattle.est_dismantle.proofs.Expanded.{expansion-well_formed, expansion-names}
use Rattle.est_dismantle.proofs.laws.expansions_are_well_formed.Goals as goal

pub returns : goal.returns
returns c = record { well_formed = expansion-well_formed; names = expansion-names }
