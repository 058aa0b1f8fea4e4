use Rattle.cec_commands.proofs.commands.load.write_summary.Goals as goal

pub summary-requires-clause-drawn : goal.summary-requires-clause-drawn
summary-requires-clause-drawn g c = c.requires.drawn
