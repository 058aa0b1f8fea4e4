use Rattle.est_codes.proofs.walk.Found.of_loop.Goals as goal

pub returns-clause-entry : goal.returns-clause-entry
returns-clause-entry c = c.looped-entry.ensures c.args.place
