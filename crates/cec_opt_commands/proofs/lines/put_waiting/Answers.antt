use Rattle.cec_opt_commands.proofs.lines.put_waiting.Goals as goal

pub returns-then-waits : goal.returns-then-waits
returns-then-waits g c = rw c.if-waits.true c.put_said.ensures
