use Rattle.cec_commands.proofs.command.do_request.Goals as goal

pub returns-in-Run-clause-agrees : goal.returns-in-Run-clause-agrees
returns-in-Run-clause-agrees g c = rw c.in-Run.is c.run_file.ensures.agrees

pub returns-in-Exec-clause-agrees : goal.returns-in-Exec-clause-agrees
returns-in-Exec-clause-agrees g c = rw c.in-Exec.is c.exec_text.ensures.agrees

pub returns-in-Generate-clause-out : goal.returns-in-Generate-clause-out
returns-in-Generate-clause-out g c = rw c.in-Generate.is c.write_generated-outcome.ensures.out

pub returns-in-Load-clause-out : goal.returns-in-Load-clause-out
returns-in-Load-clause-out g c = rw c.in-Load.is c.write_load.ensures.out

pub returns-in-Load-clause-agrees : goal.returns-in-Load-clause-agrees
returns-in-Load-clause-agrees g c = rw c.in-Load.is c.write_load.ensures.agrees
