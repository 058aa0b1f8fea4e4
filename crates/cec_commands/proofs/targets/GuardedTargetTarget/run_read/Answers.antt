use Rattle.csub_guard_run.specs.Showing.{counted_program}
use Rattle.cec_commands.proofs.targets.GuardedTargetTarget.run_read.Goals as goal

pub run_counted-requires-clause-fresh : goal.run_counted-requires-clause-fresh
run_counted-requires-clause-fresh g c = c.requires.read.1.1

pub returns : goal.returns
returns g c = λ text is.
    rw c.requires.form (record { program = counted_program c.args.machine; read = is.0; ran = c.run_counted.ensures })
