use Rattle.std.proofs.lemmas.Result.{IfOk-weaker}
use Rattle.est_kernel.specs.Plain.{program_of}
use Rattle.cec_compile.proofs.passes.compile.Goals as goal

pub returns-clause-compiles : goal.returns-clause-compiles
returns-clause-compiles g c =
    IfOk-weaker c.compile_program.result _ _
    (λ made compiled. record {
      program = program_of c.in_ok-analysed.analysed.program;
      source = c.in_ok-analysed.ensures.program;
      compiled = compiled;
    })
    c.compile_program.ensures.compiled
