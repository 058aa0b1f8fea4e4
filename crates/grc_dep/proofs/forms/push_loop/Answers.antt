use Rattle.grc_dep.proofs.forms.push_loop.Goals as goal

pub returns-in-Resumed : goal.returns-in-Resumed
returns-in-Resumed c = rw c.in-Resumed.is c.push_resumed_loop.ensures

pub returns-in-Started : goal.returns-in-Started
returns-in-Started c = rw c.in-Started.is c.push_started_loop.ensures
