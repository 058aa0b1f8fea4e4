use Rattle.std.specs.Prelude.{option_map}
use Rattle.std.proofs.Common.{ap, map}
use Rattle.base_types.specs.Relations.{relation_of}
use Rattle.est_kernel.specs.Plain.{program_of}
use Rattle.net_ir.specs.Runs.{netlist_of}
use Rattle.cec_prove_sources.specs.DeviceSurveys.{IsDeviceSurvey}
use Rattle.cec_prove_sources.specs.Surveys.{IsSurvey}
use Rattle.cec_prove_sources.proofs.Joint.{of-program, program-survey, related-as}
use Rattle.cec_prove_sources.proofs.surveys.net_survey.Goals as goal

pub device_survey-requires : goal.device_survey-requires
device_survey-requires c = record {
  fits = related-as (netlist_of c.args.net.now) (program_of c.args.program.now) (map relation_of c.deref.result.now)
      (ap (map relation_of) c.deref.ensures.value) c.requires.fits c.requires.keeps;
}

pub returns : goal.returns
returns c =
    let net = netlist_of c.args.net.now in
    let p = program_of c.args.program.now in
    let assumed = option_map (λ n. n.now) c.args.assumed in
    of-program (λ d. IsDeviceSurvey d assumed) (IsSurvey p assumed) net (map relation_of c.deref.result.now) p.relations c.device_survey.result
    (ap (map relation_of) c.deref.ensures.value) (program-survey net p c.requires.fits c.requires.keeps assumed) c.device_survey.ensures
