use Rattle.grc_dep.proofs.forms.push_seq.Goals as goal

pub returns-in-Resumed : goal.returns-in-Resumed
returns-in-Resumed c = rw c.in-Resumed.is c.push_resumed_seq.ensures

pub returns-in-Started : goal.returns-in-Started
returns-in-Started c = rw c.in-Started.is c.push_started_seq.ensures
