use Rattle.net_ir.specs.Runs.{netlist_of}
use Rattle.cec_commands.proofs.GuardedMeans.{guarded_means}
use Rattle.cec_commands.proofs.targets.GuardedTargetTarget.make.Goals as goal

pub returns-clause-made : goal.returns-clause-made
returns-clause-made g c = rw c.requires.form c.in_ok-guarded.ensures.made.made

pub returns-clause-text : goal.returns-clause-text
returns-clause-text g c =
    let m = c.in_ok-guarded.ensures.made.means in
    rw c.requires.form
    (guarded_means c.in_ok-guarded.guarded.text.items (netlist_of c.in_ok-guarded.guarded.made.net) m.regions m.runs)

pub returns-clause-guarded : goal.returns-clause-guarded
returns-clause-guarded g c = λ is. c.in_ok-guarded.ensures.text.1
