use Rattle.std.specs.Prelude.{option_map}
use Rattle.std.proofs.Common.{◌≡◌, ◌++◌, ◌∷◌, [], ◌∙◌, List, ℕ, get_or, map, take, sym, ap, subst, arith}
use Rattle.std.proofs.lemmas.List.{map_more}
use Rattle.net_ir.specs.declared.netlist.NetOut.{NetOut}
use Rattle.cec_prove_sources.specs.NetDevices.{device_of}
use Rattle.cec_prove_sources.specs.DeviceSurveys.{IsDeviceSurveyText}
use Rattle.cec_prove_sources.proofs.SurveyLines.{survey-more}
use Rattle.cec_prove_sources.proofs.device_surveys.survey_lines.Goals as goal

pub loop-k-preserved : goal.loop-k-preserved
loop-k-preserved c =
    let d = device_of c.args.relations.now c.args.net.now in
    let assumed = option_map (λ n. n.now) c.args.assumed in
    let outputs = c.args.net.now.outputs.items in
    let k = c.loop-k.k in
    let o = c.output-item.result in
    let front = map (λ (x : NetOut). x.name) (take k outputs) in
    let name : c.bytes.result.now ≡ (get_or outputs k o).name = c.bytes.ensures ∙ ap (λ (x : NetOut). x.name) c.output-item.is
    ∙ ap (λ os. (get_or os k o).name) c.deref-output-items.ensures.value in
    let names = map_more (λ (x : NetOut). x.name) outputs k o (omega arith) ∙ ap (λ n. front ++ n ∷ []) (sym name) in
    let more = survey-more d assumed front c.bytes.result.now c.loop-k.text.items c.push_signal.new.text.items c.loop-k.whole _ c.loop-k.invariant
    c.in_ok-known.ensures in
    subst (λ (ns : List (List ℕ)). IsDeviceSurveyText d assumed ns c.push_signal.new.text.items c.both-whole.result) (sym names)
    (subst (IsDeviceSurveyText d assumed (front ++ c.bytes.result.now ∷ []) c.push_signal.new.text.items) (sym c.both-whole.ensures) more)
