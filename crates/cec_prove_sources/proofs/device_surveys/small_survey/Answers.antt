use Rattle.std.specs.Prelude.{option_map}
use Rattle.std.proofs.Common.{map}
use Rattle.std.proofs.lemmas.Result.{IfOk-weaker}
use Rattle.base_types.specs.Relations.{relation_of}
use Rattle.net_ir.specs.Runs.{netlist_of}
use Rattle.cec_prove_sources.specs.DeviceSurveys.{IsDeviceSurvey}
use Rattle.cec_prove_sources.specs.NetDevices.{net_device}
use Rattle.cec_prove_sources.proofs.Rendering.{renders-survey, small-related, small-renders}
use Rattle.cec_prove_sources.proofs.device_surveys.small_survey.Goals as goal

pub device_survey-requires : goal.device_survey-requires
device_survey-requires c =
    let relations = map relation_of c.args.relations.now in
    record { fits = small-related relations (netlist_of c.args.net.now) (netlist_of c.in_ok-small.small) c.in_ok-small.ensures.optimizes c.requires.fits }

pub returns : goal.returns
returns c =
    let relations = map relation_of c.args.relations.now in
    let old = netlist_of c.args.net.now in
    let new = netlist_of c.in_ok-small.small in
    let assumed = option_map (λ n. n.now) c.args.assumed in
    IfOk-weaker c.device_survey.result (IsDeviceSurvey (net_device relations new) assumed) (IsDeviceSurvey (net_device relations old) assumed)
    (renders-survey (net_device relations new) (net_device relations old) (small-renders relations old new c.in_ok-small.ensures.optimizes) assumed)
    c.device_survey.ensures
