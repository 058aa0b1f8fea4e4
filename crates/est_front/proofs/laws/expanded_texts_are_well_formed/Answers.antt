use Rattle.est_front.proofs.FormedPrograms.{expands-well_formed, expands-names}
use Rattle.est_front.proofs.laws.expanded_texts_are_well_formed.Goals as goal

pub returns : goal.returns
returns c = record { well_formed = expands-well_formed; names = expands-names }
