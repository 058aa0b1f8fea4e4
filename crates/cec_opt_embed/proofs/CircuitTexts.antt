-- What the embedded text of a BLIF text keeps, and why a BLIF text has none under a name.
use Rattle.std.proofs.Common.{◌≡◌, ℕ, Bool, List, [], ◌∷◌, ◌++◌, length, map, Result, Ok, Err, sym, ap, ap₂, ◌∙◌, subst}
use Rattle.std.specs.Prelude.{IfOk}
use Rattle.base_facts.proofs.Lists.{map-composed}
use Rattle.base_types.specs.Items.{Item, EachEvent}
use Rattle.base_types.specs.Stops.{IfFault}
use Rattle.base_types.specs.declared.stop.Stop.{Stop}
use Rattle.base_types.proofs.Exports.{wide_events}
use Rattle.base_machines.specs.Machines.{Shows}
use Rattle.base_machines.proofs.Exports.{shows-computed, shows-through}
use Rattle.net_ir.specs.declared.netlist.Net.{Net}
use Rattle.net_ir.specs.declared.netlist.NetOut.{NetOut}
use Rattle.net_ir.specs.Netlists.{Netlist, output_names}
use Rattle.net_ir.specs.Runs.{Shown, initial_latches, net_machine, net_run, net_values, net_values_run, netlist_of, next_latches, shown}
use Rattle.blif_text.specs.Circuits.{Circuit}
use Rattle.blif_text.specs.OutputNames.{output_word, paused_word}
use Rattle.blif_text.specs.Runs.{circuit_machine}
use Rattle.blif_net.specs.Conversions.{FitsCircuit, SameLatches, ShowsCircuit}
use Rattle.csub_text.specs.Written.{shown_by_call}
use Rattle.csub_embed.specs.Faults.{IsEmbedFault, signals, under_name}
use Rattle.csub_embed.specs.Machine.{own_items}
use Rattle.csub_embed.specs.Written.{files_with, written, Means}
use Rattle.csub_embed.specs.declared.layout.EmbedLayout.{EmbedLayout}
use Rattle.cec_opt_texts.proofs.Exports.{allowed-events, fitting-events, related}
use Rattle.cec_opt_texts.specs.Alike.{HasOutputs, IsExpected}
use Rattle.cec_opt_texts.specs.Optimized.{IsSmallNetOf, IsSmallOf}
use Rattle.cec_opt_texts.specs.Related.{GivenRelation}
use Rattle.cec_opt_faults.proofs.Exports.{unmade-as}
use Rattle.cec_opt_faults.specs.Causes.{IsUnmade}
use Rattle.cec_opt_faults.specs.declared.unmade.Unmade.{Unmade}
use Rattle.cec_opt_texts.specs.Faults.{IsGivenFault}
use Rattle.blif_read.specs.declared.fault.BlifFault.{BlifFault}
use Rattle.csub_embed.specs.declared.fault.EmbedFault.{EmbedFault}
use Rattle.cec_opt_embed.specs.Faults.{IsTextEmbedFault, IsTextNameFault}
use Rattle.cec_opt_embed.specs.Texts.{EmbedKeeps, IsSmallComponent, IsSmallEmbedded, row_of}
use Rattle.cec_opt_embed.proofs.Apart.{apart}

-- ---- the optimized netlist of a circuit

given-inputs : (c : Circuit) (given : List GivenRelation) (net : Netlist) → IsSmallOf c given net → net.inputs ≡ c.inputs
given-inputs c given net small = small.small.optimizes.interface.inputs ∙ small.is.inputs

given-outputs : (c : Circuit) (given : List GivenRelation) (net : Netlist) → IsSmallOf c given net → HasOutputs c (output_names net)
given-outputs c given net small =
    sym small.is.outputs ∙ ap (λ l. l ++ paused_word ∷ [])
    (map-composed (output_word small.made.inputs) (λ (o : NetOut). o.name) small.made.outputs
    ∙ ap₂ (λ ins outs. map (output_word ins) outs) small.is.inputs (sym small.small.optimizes.interface.outputs))

-- the circuit shows, as rows, what a call shows that shows what the netlist shows
rows-shown : (c : Circuit) (given : List GivenRelation) (net : Netlist) → (small : IsSmallOf c given net) → (items : List Item)
    → EachEvent (IsExpected c small.small.relations) items
    → Shows (circuit_machine c) (λ v. map v c.outputs) (circuit_machine c).start items (map row_of (map shown_by_call (net_run net items)))
rows-shown c given net small items expected =
    let made = small.made in
    let relations = small.small.relations in
    let fits = fitting-events c relations items expected in
    let see : List Bool → List Bool = λ values. row_of (shown_by_call (shown made values)) in
    let followed : net_run net items ≡ net_run made items =
    small.small.optimizes.follows items (allowed-events c made relations small.is.inputs items expected) in
    let rows : map see (net_values_run made items) ≡ map row_of (map shown_by_call (net_run net items)) =
    map-composed (λ (s : Shown). row_of (shown_by_call s)) (shown made) (net_values_run made items)
    ∙ ap (map (λ (s : Shown). row_of (shown_by_call s))) (sym followed)
    ∙ map-composed row_of shown_by_call (net_run net items) in
    let next : List Bool → List Bool → List Bool → List Bool = λ latches inputs values. next_latches made values in
    let net-shows = shows-computed (initial_latches made) (net_values made) next see (initial_latches made) items in
    subst (λ l. Shows (circuit_machine c) (λ v. map v c.outputs) (circuit_machine c).start items l) rows
    (shows-through (net_machine made) (circuit_machine c) (FitsCircuit c) (ShowsCircuit made c) (SameLatches c) see (λ v. map v c.outputs) small.is.follows
    (λ values v same. same) (initial_latches made) (circuit_machine c).start items _ small.is.follows.agrees.starts fits net-shows)

-- ---- its text under a name

keeps-given : (text : List ℕ) (given : List GivenRelation) (name : List ℕ) (layout : EmbedLayout) (embedded : List ℕ) (net : Netlist)
    → IsSmallNetOf text given net → (made : IsSmallEmbedded text given name layout embedded)
    → Means layout.packed (files_with layout embedded made.net) (under_name name net) → EmbedKeeps text given name layout embedded
keeps-given text given name layout embedded net s made means =
    let c = s.circuit in
    let relations = s.small.small.relations in
    let same = given-inputs c given net s.small in
    record {
      small = made;
      old = c;
      reads = s.reads;
      relations = relations;
      related = related c given net s.small;
      names = output_names net;
      has_outputs = given-outputs c given net s.small;
      new = means.component;
      describes = means.describes;
      named = means.name;
      inputs = means.inputs ∙ same;
      outputs = means.outputs;
      shows = λ instances calls k begins expected.
          let items = own_items k calls in
          let wide = wide_events (length c.inputs) (length net.inputs) (ap length (sym same)) items (fitting-events c relations items expected) in
          subst (λ l. Shows (circuit_machine c) (λ v. map v c.outputs) (circuit_machine c).start items (map row_of l))
          (sym (means.shows instances calls k begins wide)) (rows-shown c given net s.small items expected);
      apart = apart means.component;
    }

pub text-keeps : (text : List ℕ) (given : List GivenRelation) (name : List ℕ) (layout : EmbedLayout) (embedded : List ℕ) (net : Netlist)
    → IsSmallComponent text given name net → embedded ≡ written layout net → Means layout.packed (files_with layout embedded net) net
    → EmbedKeeps text given name layout embedded
text-keeps text given name layout embedded net is spelled means =
    keeps-given text given name layout embedded is.optimized is.small (record { net = net; is = is; spelled = spelled })
    (subst (Means layout.packed (files_with layout embedded net)) is.named means)

-- ---- a netlist under a name

pub text-net : (text : List ℕ) (given : List GivenRelation) (name : List ℕ) (optimized : Netlist) (result : Result Net (Stop (Unmade BlifFault EmbedFault)))
    → IsSmallNetOf text given optimized → IfOk result (λ n. netlist_of n ≡ under_name name optimized)
    → IfOk result (λ n. IsSmallComponent text given name (netlist_of n))
text-net text given name optimized (Ok n) small named = record { optimized = optimized; small = small; named = named }
text-net text given name optimized (Err stop) small named = tt

-- a fault of the name or of a signal, where the text has a netlist
pub text-fault : (text : List ℕ) (given : List GivenRelation) (name : List ℕ) (optimized : Netlist) (result : Result Net (Stop (Unmade BlifFault EmbedFault)))
    → IsSmallNetOf text given optimized → IfFault result (IsUnmade (λ cause. ⊥) (IsEmbedFault name (signals optimized)))
    → IfFault result (IsTextEmbedFault text given name)
text-fault text given name optimized result s is =
    unmade-as (IsGivenFault text given) (IsEmbedFault name (signals optimized)) (IsTextNameFault text given name) result (λ fault is. record {
      net = optimized;
      small = s;
      names = output_names optimized;
      has_outputs = given-outputs s.circuit given optimized s.small;
      is = subst (λ inputs. IsEmbedFault name (inputs ++ output_names optimized) fault) (given-inputs s.circuit given optimized s.small) is;
    }) is
