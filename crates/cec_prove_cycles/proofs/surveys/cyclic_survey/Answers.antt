use Rattle.est_kernel.specs.Plain.{program_of}
use Rattle.cec_prove_cycles.proofs.surveys.cyclic_survey.Goals as goal

pub returns-clause-surveys : goal.returns-clause-surveys
returns-clause-surveys c =
    let s = c.in_ok-made.ensures.compiles in
    record { program = program_of c.in_ok-made.made.program; source = s.source; limits = s.limits; says = c.in_ok-survey.ensures }
