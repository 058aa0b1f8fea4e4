use Rattle.est_kernel.specs.Plain.{program_of}
use Rattle.cec_prove_cycles.proofs.comparing.constructive_comparison_of.Goals as goal

pub returns-in-Ok-compared_with-clause-compares : goal.returns-in-Ok-compared_with-clause-compares
returns-in-Ok-compared_with-clause-compares g c =
    let s = c.in-Ok.ensures.compiles in
    let w = c.in-Ok-compared_with.ensures.compares in
    record {
      left = program_of c.in-Ok.made.program;
      left_source = s.source;
      left_limits = s.limits;
      right = w.right;
      right_source = w.right_source;
      right_limits = w.right_limits;
      says = w.says;
    }
