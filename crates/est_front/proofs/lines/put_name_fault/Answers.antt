use Rattle.est_front.proofs.lines.put_name_fault.Goals as goal

pub returns-in-NoMain : goal.returns-in-NoMain
returns-in-NoMain g c = rw c.in-NoMain.is c.write_pieces.ensures
