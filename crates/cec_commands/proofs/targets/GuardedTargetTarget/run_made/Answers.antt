use Rattle.std.proofs.Common.{subst}
use Rattle.net_ir.specs.Runs.{netlist_of}
use Rattle.cec_commands.specs.NetTexts.{IsWritten}
use Rattle.cec_commands.proofs.targets.GuardedTargetTarget.run_made.Goals as goal

pub run_written_counted-requires-clause-means : goal.run_written_counted-requires-clause-means
run_written_counted-requires-clause-means g c =
    subst (λ form. IsWritten form c.args.text.now (netlist_of c.args.net.now)) c.requires.form c.requires.written

pub returns : goal.returns
returns g c = rw c.requires.form c.run_written_counted.ensures
