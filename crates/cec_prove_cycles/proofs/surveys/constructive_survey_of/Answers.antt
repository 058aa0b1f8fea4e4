use Rattle.cec_prove_cycles.proofs.surveys.constructive_survey_of.Goals as goal

pub returns-in-Ok-clause-surveys : goal.returns-in-Ok-clause-surveys
returns-in-Ok-clause-surveys g c =
    let v = c.in-Ok.ensures.surveys in record { program = v.program; source = v.source; limits = v.compiles.limits; says = v.says }
