use Rattle.std.specs.Prelude.{option_map}
use Rattle.std.proofs.Common.{◌∙◌, ap, map}
use Rattle.base_types.specs.Relations.{relation_of}
use Rattle.est_kernel.specs.Plain.{program_of}
use Rattle.net_ir.specs.Runs.{netlist_of}
use Rattle.cec_prove_sources.specs.DeviceSurveys.{IsDeviceSurvey}
use Rattle.cec_prove_sources.specs.Surveys.{IsSurvey}
use Rattle.cec_prove_sources.proofs.Joint.{of-program, program-survey, related-as}
use Rattle.cec_prove_sources.proofs.surveys.encoded_survey.Goals as goal

pub made_in-requires-clause-stands : goal.made_in-requires-clause-stands
made_in-requires-clause-stands c = (program_of c.args.compiled.graph.program, c.requires.compiled)

pub small_survey-requires : goal.small_survey-requires
small_survey-requires c =
    let p = program_of c.args.compiled.graph.program in
    record {
      fits = related-as (netlist_of c.in_ok-made.made.net) p (map relation_of c.deref.result.now)
          (ap (map relation_of) c.deref.ensures.value ∙ ap (λ k. (program_of k).relations) c.in_ok-made.ensures.program) c.requires.fits
          (c.in_ok-made.ensures.net p c.requires.compiled).keeps;
    }

pub returns : goal.returns
returns c =
    let net = netlist_of c.in_ok-made.made.net in
    let p = program_of c.args.compiled.graph.program in
    let assumed = option_map (λ n. n.now) c.args.assumed in
    of-program (λ d. IsDeviceSurvey d assumed) (IsSurvey p assumed) net (map relation_of c.deref.result.now) p.relations c.small_survey.result
    (ap (map relation_of) c.deref.ensures.value ∙ ap (λ k. (program_of k).relations) c.in_ok-made.ensures.program)
    (program-survey net p c.requires.fits (c.in_ok-made.ensures.net p c.requires.compiled).keeps assumed) c.small_survey.ensures
