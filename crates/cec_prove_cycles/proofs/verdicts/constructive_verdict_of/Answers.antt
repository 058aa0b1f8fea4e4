use Rattle.cec_prove_cycles.proofs.verdicts.constructive_verdict_of.Goals as goal

pub returns-in-Ok-clause-answers : goal.returns-in-Ok-clause-answers
returns-in-Ok-clause-answers g c =
    let v = c.in-Ok.ensures.answers in record { program = v.program; source = v.source; limits = v.compiles.limits; says = v.says }
