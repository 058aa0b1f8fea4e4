-- What the Verilog with a reset of a BLIF text keeps, and why a BLIF text has none.
use Rattle.std.proofs.Common.{◌≡◌, ℕ, Bool, List, [], ◌∷◌, ◌++◌, length, map, Result, Ok, Err, sym, ap, ap₂, ◌∙◌, subst}
use Rattle.std.specs.Prelude.{IfOk, unwrap_or}
use Rattle.std.specs.List.{AllByRecursion}
use Rattle.base_facts.proofs.Lists.{map-composed}
use Rattle.base_types.specs.Items.{Item, EachEvent}
use Rattle.base_types.specs.Relations.{Relation}
use Rattle.base_types.specs.Stops.{IfFault}
use Rattle.base_types.specs.declared.stop.Stop.{Stop}
use Rattle.base_machines.specs.Machines.{Shows}
use Rattle.base_machines.proofs.Exports.{shows-computed, shows-through}
use Rattle.net_ir.specs.declared.netlist.NetOut.{NetOut}
use Rattle.net_ir.specs.Netlists.{Netlist, output_names}
use Rattle.net_ir.specs.Runs.{initial_latches, net_machine, net_run, net_values, net_values_run, next_latches, shown}
use Rattle.net_ir.proofs.Exports.{length-numbered}
use Rattle.blif_text.specs.Circuits.{Circuit}
use Rattle.blif_text.specs.OutputNames.{output_word, paused_word}
use Rattle.blif_text.specs.Runs.{circuit_machine}
use Rattle.blif_net.specs.Conversions.{FitsCircuit, SameLatches, ShowsCircuit}
use Rattle.vlog_text.specs.Names.{paused_name}
use Rattle.vlog_reset.specs.Faults.{IsResetFault}
use Rattle.vlog_reset.specs.Machine.{HasWidth, step_items}
use Rattle.vlog_reset.specs.Options.{ModuleOptions}
use Rattle.vlog_reset.specs.Written.{Means, input_name, net_register, outgoing_name, written}
use Rattle.cec_opt_texts.proofs.Exports.{allowed-events, fitting-events, related}
use Rattle.cec_opt_texts.specs.Alike.{HasOutputs, IsExpected}
use Rattle.cec_opt_texts.specs.Optimized.{IsSmallNetOf, IsSmallOf}
use Rattle.cec_opt_texts.specs.Related.{GivenRelation}
use Rattle.cec_opt_faults.proofs.Exports.{unmade-as}
use Rattle.cec_opt_faults.specs.Causes.{IsUnmade}
use Rattle.cec_opt_faults.specs.declared.unmade.Unmade.{Unmade}
use Rattle.cec_opt_texts.specs.Faults.{IsGivenFault}
use Rattle.blif_read.specs.declared.fault.BlifFault.{BlifFault}
use Rattle.vlog_reset.specs.declared.fault.ResetFault.{ResetFault}
use Rattle.cec_opt_reset.specs.Faults.{IsTextModuleNameFault, IsTextResetFault}
use Rattle.cec_opt_reset.specs.Texts.{ResetKeeps}
use Rattle.cec_opt_reset.proofs.SourceTexts.{shown_row}

-- ---- the optimized netlist of a circuit

-- what the netlist has of the circuit, which shows what the netlist shows
record IsCircuitsNet (c : Circuit) (relations : List Relation) (net : Netlist) : Type 0 where
  name : net.name ≡ c.name
  inputs : net.inputs ≡ c.inputs
  outputs : HasOutputs c (output_names net)
  shows : (items : List Item) → EachEvent (IsExpected c relations) items
      → Shows (circuit_machine c) (λ v. map v c.outputs) (circuit_machine c).start items (map shown_row (net_run net items))

circuits-net : (c : Circuit) (given : List GivenRelation) (net : Netlist) → (small : IsSmallOf c given net) → IsCircuitsNet c small.small.relations net
circuits-net c given net small =
    let made = small.made in
    let relations = small.small.relations in
    let kept = small.small.optimizes.interface in
    let see : List Bool → List Bool = λ values. shown_row (shown made values) in
    let next : List Bool → List Bool → List Bool → List Bool = λ latches inputs values. next_latches made values in
    record {
      name = kept.name ∙ small.is.name;
      inputs = kept.inputs ∙ small.is.inputs;
      outputs = sym small.is.outputs ∙ ap (λ l. l ++ paused_word ∷ [])
          (map-composed (output_word made.inputs) (λ (o : NetOut). o.name) made.outputs
          ∙ ap₂ (λ ins outs. map (output_word ins) outs) small.is.inputs (sym kept.outputs));
      shows = λ items expected.
          let fits = fitting-events c relations items expected in
          let followed : net_run net items ≡ net_run made items =
          small.small.optimizes.follows items (allowed-events c made relations small.is.inputs items expected) in
          let rows : map see (net_values_run made items) ≡ map shown_row (net_run net items) =
          map-composed shown_row (shown made) (net_values_run made items) ∙ ap (map shown_row) (sym followed) in
          subst (λ l. Shows (circuit_machine c) (λ v. map v c.outputs) (circuit_machine c).start items l) rows
          (shows-through (net_machine made) (circuit_machine c) (FitsCircuit c) (ShowsCircuit made c) (SameLatches c) see (λ v. map v c.outputs)
          small.is.follows (λ values v same. same) (initial_latches made) (circuit_machine c).start items _ small.is.follows.agrees.starts fits
          (shows-computed (initial_latches made) (net_values made) next see (initial_latches made) items));
    }

-- ---- its text, and a fault of the names

text-keeps : (text : List ℕ) (given : List GivenRelation) (o : ModuleOptions) (net : Netlist) (reset : List ℕ) → IsSmallNetOf text given net
    → reset ≡ written o net → Means reset net o → ResetKeeps text given o reset
text-keeps text given o net reset s spelled means =
    let c = s.circuit in
    let has = circuits-net c given net s.small in
    record {
      old = c;
      reads = s.reads;
      relations = s.small.small.relations;
      related = related c given net s.small;
      names = output_names net;
      has_outputs = has.outputs;
      new = means.verilog;
      describes = means.describes;
      name = means.name ∙ ap (unwrap_or o.name) has.name;
      clock = means.clock;
      port = means.reset;
      manner = means.manner;
      inputs = means.inputs ∙ ap (map (input_name o)) has.inputs;
      outputs = means.outputs ∙ ap (λ l. l ++ paused_name ∷ []) (map-composed (outgoing_name o) (λ (output : NetOut). output.name) net.outputs);
      runs = λ registers steps len fits.
          means.runs registers steps (len ∙ ap length means.registers ∙ length-numbered (net_register o net) 0 net.latches)
          (subst (λ n. AllByRecursion (HasWidth n) steps) (ap length (sym has.inputs)) fits);
      shows = λ registers steps vs begins expected run.
          let items = step_items o.manner steps in
          subst (λ l. Shows (circuit_machine c) (λ v. map v c.outputs) (circuit_machine c).start items l)
          (sym (means.shows registers steps vs begins run)) (has.shows items expected);
      net = net;
      small = s;
      spelled = spelled;
    }

pub small-text : {Z : Type 0} (items : Z → List ℕ) (text : List ℕ) (given : List GivenRelation) (o : ModuleOptions) (net : Netlist)
    (result : Result Z (Stop (Unmade BlifFault ResetFault))) → IsSmallNetOf text given net → IfOk result (λ t. items t ≡ written o net)
    → IfOk result (λ t. Means (items t) net o) → IfOk result (λ t. ResetKeeps text given o (items t))
small-text items text given o net (Ok t) small spelled means = text-keeps text given o net (items t) small spelled means
small-text items text given o net (Err stop) small spelled means = tt

-- a fault of the names, where the text has a netlist
pub text-fault : {Z : Type 0} (text : List ℕ) (given : List GivenRelation) (o : ModuleOptions) (net : Netlist)
    (result : Result Z (Stop (Unmade BlifFault ResetFault))) → IsSmallNetOf text given net → IfFault result (IsUnmade (λ cause. ⊥) (IsResetFault o net))
    → IfFault result (IsTextResetFault text given o)
text-fault text given o net result small is =
    unmade-as (IsGivenFault text given) (IsResetFault o net) (IsTextModuleNameFault text given o) result
    (λ fault is. record { net = net; small = small; is = is }) is
