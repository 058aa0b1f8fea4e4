use Rattle.std.specs.Prelude.{option_map}
use Rattle.std.proofs.Common.{map, take}
use Rattle.net_ir.specs.declared.netlist.NetOut.{NetOut}
use Rattle.cec_prove_sources.specs.NetDevices.{device_of}
use Rattle.cec_prove_sources.specs.DeviceSurveys.{IsDeviceSurveyText}
use Rattle.cec_prove_sources.proofs.device_surveys.survey_lines.Given as goal

-- the text is the survey of the outputs so far
abbrev pub invariant-loop-k : goal.invariant-loop-k
invariant-loop-k l =
    IsDeviceSurveyText (device_of l.relations l.net) (option_map (λ n. n.now) l.assumed) (map (λ (o : NetOut). o.name) (take l.k l.net.outputs.items))
    l.text.items l.whole
