use Rattle.est_front.proofs.OneProgram.{one_program}
use Rattle.est_front.proofs.laws.texts_stand_for_one_program.Goals as goal

pub returns : goal.returns
returns c = one_program
