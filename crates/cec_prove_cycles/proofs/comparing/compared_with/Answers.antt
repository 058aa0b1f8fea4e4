use Rattle.est_kernel.specs.Plain.{program_of}
use Rattle.cec_prove_cycles.proofs.comparing.compared_with.Goals as goal

pub returns-clause-compares : goal.returns-clause-compares
returns-clause-compares g c =
    let s = c.in_ok-right.ensures.compiles in
    record { right = program_of c.in_ok-right.right.program; right_source = s.source; right_limits = s.limits; says = c.in_ok-comparison.ensures }
