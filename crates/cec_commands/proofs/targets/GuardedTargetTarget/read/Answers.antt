use Rattle.csub_guard_run.specs.Showing.{counted_program}
use Rattle.cec_commands.proofs.targets.GuardedTargetTarget.read.Goals as goal

pub returns-in-Ok-clause-runs : goal.returns-in-Ok-clause-runs
returns-in-Ok-clause-runs c =
    rw c.requires.form
    (record { program = counted_program c.in-Ok.machine; within = c.requires.fits; read = c.in-Ok.ensures.reads })
