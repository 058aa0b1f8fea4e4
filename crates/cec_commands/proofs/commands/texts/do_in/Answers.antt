use Rattle.cec_commands.proofs.commands.texts.do_in.Goals as goal

pub returns-in-Write-clause-agrees : goal.returns-in-Write-clause-agrees
returns-in-Write-clause-agrees g c = rw c.in-Write.is c.write_in.ensures.agrees

pub returns-in-Write-clause-out : goal.returns-in-Write-clause-out
returns-in-Write-clause-out g c = rw c.in-Write.is c.write_in.ensures.out

pub returns-in-Run-clause-agrees : goal.returns-in-Run-clause-agrees
returns-in-Run-clause-agrees g c = rw c.in-Run.is c.run_in.ensures.agrees

pub returns-in-Run-clause-out : goal.returns-in-Run-clause-out
returns-in-Run-clause-out g c = rw c.in-Run.is c.run_in.ensures.out

pub returns-in-Exec-clause-agrees : goal.returns-in-Exec-clause-agrees
returns-in-Exec-clause-agrees g c = rw c.in-Exec.is c.exec_in.ensures.agrees

pub returns-in-Exec-clause-out : goal.returns-in-Exec-clause-out
returns-in-Exec-clause-out g c = rw c.in-Exec.is c.exec_in.ensures.out
