use Rattle.net_ir.specs.Runs.{netlist_of}
use Rattle.cec_commands.proofs.targets.NetTargetTarget.run_made.Goals as goal

pub run_written-requires-clause-means : goal.run_written-requires-clause-means
run_written-requires-clause-means g c = c.requires.form.1.means c.args.text.now (netlist_of c.args.net.now) c.requires.written

pub returns : goal.returns
returns g c = c.requires.form.1.runs_text _ _ _ _ _ _ c.run_written.ensures
