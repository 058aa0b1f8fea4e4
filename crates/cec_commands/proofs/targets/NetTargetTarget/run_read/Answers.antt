use Rattle.cec_commands.proofs.targets.NetTargetTarget.run_read.Goals as goal

pub run_text-requires-clause-shows : goal.run_text-requires-clause-shows
run_text-requires-clause-shows g c = c.requires.read.1.shows

pub returns : goal.returns
returns g c = λ text is.
    c.requires.form.1.runs text c.args.trace.items _ _
    (record { program = g.L.Language.plain c.args.machine; read = is.reads; ran = c.run_text.ensures })
