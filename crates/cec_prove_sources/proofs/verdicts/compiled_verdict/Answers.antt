use Rattle.cec_prove_sources.proofs.verdicts.compiled_verdict.Goals as goal

pub net_verdict-requires-clause-keeps : goal.net_verdict-requires-clause-keeps
net_verdict-requires-clause-keeps c = c.requires.compiled.keeps
