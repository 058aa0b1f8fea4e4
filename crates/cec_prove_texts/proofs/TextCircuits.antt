-- A circuit shows what its netlist shows.
use Rattle.std.proofs.Common.{◌≡◌, ℕ, Option, List, [], ◌∷◌, ◌++◌, length, map, refl, sym, ap, subst, ◌∙◌}
use Rattle.std.specs.Prelude.{IsTrue}
use Rattle.std.proofs.lemmas.List.Elements.{All-map}
use Rattle.base_facts.proofs.Lists.{map-twice}
use Rattle.base_types.specs.Items.{Item, EachEvent}
use Rattle.base_types.specs.Names.{is_name}
use Rattle.base_machines.specs.Machines.{Shows}
use Rattle.base_machines.proofs.Exports.{shows-computed, shows-through}
use Rattle.net_ir.specs.declared.netlist.NetOut.{NetOut}
use Rattle.net_ir.specs.Netlists.{IsNet, Netlist, output_names}
use Rattle.net_ir.specs.Runs.{initial_latches, net_machine, net_values, net_values_run, next_latches, shown}
use Rattle.blif_text.specs.Circuits.{Circuit}
use Rattle.blif_text.specs.OutputNames.{output_word, paused_word}
use Rattle.blif_text.specs.Runs.{circuit_machine}
use Rattle.blif_net.specs.Conversions.{FitsCircuit, IsNetOf, SameLatches, ShowsCircuit}
use Rattle.cec_opt_texts.specs.Alike.{HasOutputs}
use Rattle.cec_opt_texts.specs.Optimized.{IsTextNet}
use Rattle.cec_prove_sources.specs.DeviceSameness.{IsDeviceComparison}
use Rattle.cec_prove_sources.specs.DeviceSurveys.{IsDeviceSurvey}
use Rattle.cec_prove_sources.specs.DeviceVerdicts.{IsDeviceVerdict}
use Rattle.cec_prove_sources.specs.NetDevices.{Renders, net_device, net_rows, row_of}
use Rattle.cec_prove_sources.specs.Verdicts.{PlainQuestion}
use Rattle.cec_prove_sources.specs.declared.questions.Comparison.{Comparison}
use Rattle.cec_prove_sources.specs.declared.questions.Survey.{Survey}
use Rattle.cec_prove_sources.specs.declared.questions.Verdict.{Verdict}
use Rattle.cec_prove_sources.proofs.Exports.{renders-comparison, renders-survey, renders-verdict, wide-items}
use Rattle.cec_prove_texts.specs.Devices.{DescribesNamed, circuit_device}
use Rattle.cec_prove_texts.specs.Sameness.{HasTextComparison}
use Rattle.cec_prove_texts.specs.Surveys.{HasTextSurvey}
use Rattle.cec_prove_texts.specs.Verdicts.{HasTextVerdict}

circuit-shows : (c : Circuit) (net : Netlist) → IsNetOf c net → (items : List Item) → EachEvent (FitsCircuit c) items
    → Shows (circuit_machine c) (λ v. map v c.outputs) (circuit_machine c).start items (net_rows net items)
circuit-shows c net is items fits =
    let net-shows = shows-computed (initial_latches net) (net_values net) (λ latches inputs values. next_latches net values)
    (λ values. row_of (shown net values)) (initial_latches net) items in
    subst (λ l. Shows (circuit_machine c) (λ v. map v c.outputs) (circuit_machine c).start items l)
    (sym (map-twice row_of (shown net) (net_values_run net items)))
    (shows-through (net_machine net) (circuit_machine c) (FitsCircuit c) (ShowsCircuit net c) (SameLatches c) (λ values. row_of (shown net values))
    (λ v. map v c.outputs) is.follows (λ values v same. same) (initial_latches net) (circuit_machine c).start items _ is.follows.agrees.starts fits net-shows)

circuit-renders : (c : Circuit) (net : Netlist) → IsNetOf c net → Renders (net_device [] net) (circuit_device c (output_names net))
circuit-renders c net is = record {
  inputs = is.inputs;
  outputs = refl;
  relations = refl;
  shows = λ items rows fits e.
      subst (λ l. Shows (circuit_machine c) (λ v. map v c.outputs) (circuit_machine c).start items l) (sym e)
      (circuit-shows c net is items
      (subst (λ (inputs : List (List ℕ)). EachEvent (λ event. length event ≡ length inputs) items) is.inputs (wide-items (net_device [] net) items fits)));
}

-- the outputs of the circuit have the names of the netlist's
named : (c : Circuit) (net : Netlist) → IsNetOf c net → HasOutputs c (output_names net)
named c net is =
    sym is.outputs ∙ ap (λ l. l ++ paused_word ∷ [])
    (sym (map-twice (output_word net.inputs) (λ (o : NetOut). o.name) net.outputs) ∙ ap (λ ins. map (output_word ins) (output_names net)) is.inputs)

pub describes : (text : List ℕ) (net : Netlist) → IsNet net → (of_text : IsTextNet text net) → DescribesNamed text of_text.circuit (output_names net)
describes text net sound of_text = record {
  reads = of_text.reads;
  named = named of_text.circuit net of_text.is;
  fit = All-map (λ name. IsTrue (is_name name)) (λ (o : NetOut). o.name) net.outputs sound.output_names_fit;
}

pub text-verdict : (text : List ℕ) (net : Netlist) (q : PlainQuestion) (verdict : Verdict) → IsNet net → IsTextNet text net
    → IsDeviceVerdict (net_device [] net) q verdict → HasTextVerdict text q verdict
text-verdict text net q verdict sound of_text says =
    let c = of_text.circuit in
    record {
      circuit = c;
      names = output_names net;
      describes = describes text net sound of_text;
      says = renders-verdict (net_device [] net) (circuit_device c (output_names net)) (circuit-renders c net of_text.is) q verdict says;
    }

pub text-survey : (text : List ℕ) (net : Netlist) (assumed : Option (List ℕ)) (survey : Survey) → IsNet net → IsTextNet text net
    → IsDeviceSurvey (net_device [] net) assumed survey → HasTextSurvey text assumed survey
text-survey text net assumed survey sound of_text says =
    let c = of_text.circuit in
    record {
      circuit = c;
      names = output_names net;
      describes = describes text net sound of_text;
      says = renders-survey (net_device [] net) (circuit_device c (output_names net)) (circuit-renders c net of_text.is) assumed survey says;
    }

pub text-comparison : (first second : List ℕ) (left right : Netlist) (comparison : Comparison) → IsNet left → IsNet right → IsTextNet first left
    → IsTextNet second right → IsDeviceComparison (net_device [] left) (net_device [] right) comparison → HasTextComparison first second comparison
text-comparison first second left right comparison sound-left sound-right of_first of_second says =
    let c = of_first.circuit in
    let k = of_second.circuit in
    record {
      left = c;
      left_names = output_names left;
      left_describes = describes first left sound-left of_first;
      right = k;
      right_names = output_names right;
      right_describes = describes second right sound-right of_second;
      says = renders-comparison (net_device [] left) (circuit_device c (output_names left)) (net_device [] right) (circuit_device k (output_names right))
          (circuit-renders c left of_first.is) (circuit-renders k right of_second.is) comparison says;
    }
