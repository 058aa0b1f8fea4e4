use Rattle.std.specs.Prelude.{option_map}
use Rattle.std.proofs.Common.{subst, sym}
use Rattle.est_kernel.specs.WellFormed.{IsWellFormed}
use Rattle.cec_compile.specs.Compiling.{IsCompiled}
use Rattle.cec_prove_sources.specs.Surveys.{IsSurvey}
use Rattle.cec_prove_sources.proofs.surveys.survey_of.Goals as goal

pub encoded_survey-requires-clause-fits : goal.encoded_survey-requires-clause-fits
encoded_survey-requires-clause-fits g c =
    let s = c.in_ok-compiled.ensures.compiles in subst IsWellFormed (sym s.compiled.program) s.compiled.formed

pub encoded_survey-requires-clause-compiled : goal.encoded_survey-requires-clause-compiled
encoded_survey-requires-clause-compiled g c =
    let s = c.in_ok-compiled.ensures.compiles in subst (IsCompiled c.in_ok-compiled.compiled) (sym s.compiled.program) s.compiled

pub returns-clause-surveys : goal.returns-clause-surveys
returns-clause-surveys g c =
    let s = c.in_ok-compiled.ensures.compiles in
    record {
      program = s.program;
      source = s.source;
      compiles = s.compiled.compiles;
      says = subst (λ p. IsSurvey p (option_map (λ n. n.now) c.args.assumed) c.in_ok-survey.survey) s.compiled.program c.in_ok-survey.ensures;
    }
