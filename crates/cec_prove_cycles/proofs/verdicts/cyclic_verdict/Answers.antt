use Rattle.est_kernel.specs.Plain.{program_of}
use Rattle.cec_prove_cycles.proofs.verdicts.cyclic_verdict.Goals as goal

pub returns-clause-answers : goal.returns-clause-answers
returns-clause-answers c =
    let s = c.in_ok-made.ensures.compiles in
    record { program = program_of c.in_ok-made.made.program; source = s.source; limits = s.limits; says = c.in_ok-verdict.ensures }
