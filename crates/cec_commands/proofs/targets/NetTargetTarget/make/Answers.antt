use Rattle.net_ir.specs.Runs.{netlist_of}
use Rattle.cec_commands.proofs.targets.NetTargetTarget.make.Goals as goal

pub returns-clause-text : goal.returns-clause-text
returns-clause-text g c =
    c.requires.form.0.written c.in_ok-text.text.items (netlist_of c.in_ok-made.made.net)
    (record { spelled = c.in_ok-text.ensures.text; means = c.in_ok-text.ensures.means })

pub returns-clause-guarded : goal.returns-clause-guarded
returns-clause-guarded g c = λ is. absurd (c.requires.form.1.plain is)
