use Rattle.cec_commands.proofs.targets.NetTargetTarget.read.Goals as goal

pub returns-in-Ok-clause-reads : goal.returns-in-Ok-clause-reads
returns-in-Ok-clause-reads g c = record { reads = c.in-Ok.ensures.reads; shows = c.in-Ok.ensures.shows }

pub returns-in-Ok-clause-runs : goal.returns-in-Ok-clause-runs
returns-in-Ok-clause-runs g c =
    c.requires.form.1.runnable c.args.text.now
    (record { program = g.L.Language.plain c.in-Ok.machine; within = c.requires.fits; read = c.in-Ok.ensures.reads })
