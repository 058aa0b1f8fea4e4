use Rattle.std.proofs.Common.{subst, sym}
use Rattle.est_kernel.specs.WellFormed.{IsWellFormed}
use Rattle.cec_compile.specs.Compiling.{IsCompiled}
use Rattle.cec_prove_sources.specs.Verdicts.{IsVerdict}
use Rattle.cec_prove_sources.specs.Views.{plain_question}
use Rattle.cec_prove_sources.proofs.verdicts.verdict_of.Goals as goal

pub compiled_verdict-requires-clause-fits : goal.compiled_verdict-requires-clause-fits
compiled_verdict-requires-clause-fits g c =
    let s = c.in_ok-compiled.ensures.compiles in subst IsWellFormed (sym s.compiled.program) s.compiled.formed

pub compiled_verdict-requires-clause-compiled : goal.compiled_verdict-requires-clause-compiled
compiled_verdict-requires-clause-compiled g c =
    let s = c.in_ok-compiled.ensures.compiles in subst (IsCompiled c.in_ok-compiled.compiled) (sym s.compiled.program) s.compiled

pub returns-clause-answers : goal.returns-clause-answers
returns-clause-answers g c =
    let s = c.in_ok-compiled.ensures.compiles in
    record {
      program = s.program;
      source = s.source;
      compiles = s.compiled.compiles;
      says = subst (λ p. IsVerdict p (plain_question c.args.question) c.in_ok-verdict.verdict) s.compiled.program c.in_ok-verdict.ensures;
    }
