-- What the texts of an optimized netlist keep of the text whose netlist it is made of.
use Rattle.std.proofs.Common.{◌≡◌, ℕ, Bool, List, [], ◌∷◌, ◌++◌, length, map, sym, ap, ap₂, ◌∙◌, subst}
use Rattle.std.specs.Prelude.{codes, Ok}
use Rattle.base_facts.proofs.Lists.{map-twice}
use Rattle.base_types.specs.Items.{Item, EachEvent, Event, Reset}
use Rattle.base_types.specs.Relations.{Relation}
use Rattle.base_types.proofs.Exports.{wide_events}
use Rattle.base_machines.specs.Machines.{Shows}
use Rattle.base_machines.proofs.Exports.{shows-computed, shows-through}
use Rattle.net_ir.specs.declared.netlist.NetOut.{NetOut}
use Rattle.net_ir.specs.Netlists.{Netlist, output_names}
use Rattle.net_relations.specs.Under.{IsAllowed}
use Rattle.net_ir.specs.Runs.{Shown, shown, net_machine, net_values, next_latches, initial_latches, net_run}
use Rattle.blif_text.specs.Circuits.{Circuit}
use Rattle.blif_text.specs.OutputNames.{output_word, paused_word}
use Rattle.blif_text.specs.Runs.{circuit_machine}
use Rattle.blif_text.specs.Written.{Means, output_words}
use Rattle.csub_text.specs.Machine.{program_machine, memories, first_memory, call, SeenCall, seen}
use Rattle.csub_text.specs.Names.{outputs_of}
use Rattle.csub_text.specs.Trees.{Program}
use Rattle.csub_text.specs.Written as c_texts
use Rattle.vlog_text.specs.Written as vlog_texts
use Rattle.net_expressions.specs.Values.{value_of}
use Rattle.blif_net.specs.Conversions.{FitsCircuit, ShowsCircuit, SameLatches}
use Rattle.cec_opt_texts.specs.Alike.{HasOutputs, IsExpected, BlifKeeps, CKeeps, VerilogKeeps}
use Rattle.cec_opt_texts.specs.Optimized.{IsSmallOf, IsSmallNetOf}
use Rattle.cec_opt_texts.specs.Related.{GivenRelation, numbered_relations}

-- what a netlist shows, as a row of values
abbrev row : Shown → List Bool
row s = s.outputs ++ s.paused ∷ []

-- expected events fit the circuit
pub fitting-events : (c : Circuit) (relations : List Relation) (items : List Item) → EachEvent (IsExpected c relations) items
    → EachEvent (FitsCircuit c) items
fitting-events c relations [] expected = expected
fitting-events c relations (Event given ∷ items) expected = (expected.0.fits, fitting-events c relations items expected.1)
fitting-events c relations (Reset ∷ items) expected = fitting-events c relations items expected

-- and a netlist with the same inputs allows them
pub allowed-events : (c : Circuit) (made : Netlist) (relations : List Relation) → made.inputs ≡ c.inputs → (items : List Item)
    → EachEvent (IsExpected c relations) items → EachEvent (IsAllowed made relations) items
allowed-events c made relations same [] expected = expected
allowed-events c made relations same (Event given ∷ items) expected =
    (record { wide = expected.0.fits ∙ ap length (sym same); meets = expected.0.meets }, allowed-events c made relations same items expected.1)
allowed-events c made relations same (Reset ∷ items) expected = allowed-events c made relations same items expected

module _ (c : Circuit) (given : List GivenRelation) (net : Netlist) (small : IsSmallOf c given net) where
  abbrev made : Netlist
  made = small.made

  abbrev relations : List Relation
  relations = small.small.relations

  pub name-kept : net.name ≡ c.name
  name-kept = small.small.optimizes.interface.name ∙ small.is.name

  pub inputs-kept : net.inputs ≡ c.inputs
  inputs-kept = small.small.optimizes.interface.inputs ∙ small.is.inputs

  pub related : numbered_relations c.inputs given ≡ Ok relations
  related = subst (λ inputs. numbered_relations inputs given ≡ Ok relations) small.is.inputs small.small.named

  words-of : (inputs : List (List ℕ)) (outs : List NetOut) → map (λ (o : NetOut). output_word inputs o.name) outs
      ≡ map (output_word inputs) (map (λ (o : NetOut). o.name) outs)
  words-of inputs outs = sym (map-twice (output_word inputs) (λ (o : NetOut). o.name) outs)

  pub named : HasOutputs c (output_names net)
  named =
      sym small.is.outputs ∙ ap (λ l. l ++ paused_word ∷ []) (words-of made.inputs made.outputs
      ∙ ap₂ (λ ins outs. map (output_word ins) outs) small.is.inputs (sym small.small.optimizes.interface.outputs))

  pub words-kept : output_words net ≡ c.outputs
  words-kept =
      ap (λ l. l ++ paused_word ∷ []) (words-of net.inputs net.outputs ∙ ap (λ ins. map (output_word ins) (output_names net)) inputs-kept)
      ∙ sym named

  module _ (items : List Item) (expected : EachEvent (IsExpected c relations) items) where
    abbrev fits : EachEvent (FitsCircuit c) items
    fits = fitting-events c relations items expected

    pub wide : EachEvent (λ event. length event ≡ length net.inputs) items
    wide = wide_events (length c.inputs) (length net.inputs) (ap length (sym inputs-kept)) items fits

    abbrev rows : List (List Bool)
    rows = map row (net_run net items)

    followed : net_run net items ≡ net_run made items
    followed = small.small.optimizes.follows items (allowed-events c made relations small.is.inputs items expected)

    -- the circuit shows what the netlist shows
    pub circuit-shows : Shows (circuit_machine c) (λ v. map v c.outputs) (circuit_machine c).start items rows
    circuit-shows =
        let net-shows = shows-computed (initial_latches made) (net_values made) (λ latches inputs values. next_latches made values)
        (λ values. row (shown made values)) (initial_latches made) items in
        subst (λ l. Shows (circuit_machine c) (λ v. map v c.outputs) (circuit_machine c).start items l)
        (sym (map-twice row (shown made) _) ∙ ap (map row) (sym followed))
        (shows-through (net_machine made) (circuit_machine c) (FitsCircuit c) (ShowsCircuit made c) (SameLatches c) (λ values. row (shown made values))
        (λ v. map v c.outputs) small.is.follows (λ values v same. same) (initial_latches made) (circuit_machine c).start items _
        small.is.follows.agrees.starts fits net-shows)

pub blif-keeps : (text : List ℕ) (given : List GivenRelation) (written : List ℕ) (net : Netlist) → IsSmallNetOf text given net → Means written net
    → BlifKeeps text given written
blif-keeps text given written net s means =
    let c = s.circuit in
    let outputs : means.circuit.outputs ≡ c.outputs = means.outputs ∙ words-kept c given net s.small in
    record {
      old = c;
      reads = s.reads;
      relations = s.small.small.relations;
      related = related c given net s.small;
      new = means.circuit;
      reads_back = means.reads;
      name = means.name ∙ name-kept c given net s.small;
      inputs = means.inputs ∙ inputs-kept c given net s.small;
      outputs = outputs;
      shows = record {
        alike = λ items expected. (
          rows c given net s.small items expected,
          circuit-shows c given net s.small items expected,
          record {
            some_run = means.runs items (wide c given net s.small items expected);
            each_run = λ vs run. sym (means.shows items vs run);
          },
        );
      };
    }

pub verilog-keeps : (text : List ℕ) (given : List GivenRelation) (written : List ℕ) (net : Netlist) → IsSmallNetOf text given net → vlog_texts.Means written net
    → VerilogKeeps text given written
verilog-keeps text given written net s means =
    let c = s.circuit in
    record {
      old = c;
      reads = s.reads;
      relations = s.small.small.relations;
      related = related c given net s.small;
      names = output_names net;
      named = named c given net s.small;
      new = means.design;
      describes = means.describes;
      name = means.name ∙ ap (λ n. codes "m_" ++ n) (name-kept c given net s.small);
      inputs = means.inputs ∙ ap (λ ins. codes "clk" ∷ map (λ name. codes "i_" ++ name) ins) (inputs-kept c given net s.small);
      outputs = means.outputs ∙ ap (λ l. l ++ codes "paused" ∷ []) (sym (map-twice (λ name. codes "o_" ++ name) (λ (o : NetOut). o.name) net.outputs));
      shows = record {
        alike = λ items expected. (
          rows c given net s.small items expected,
          circuit-shows c given net s.small items expected,
          record {
            some_run = means.runs items (wide c given net s.small items expected);
            each_run = λ vs run. sym (means.shows items vs run);
          },
        );
      };
    }

-- what is seen of a call, as a row of values
abbrev seen_row : SeenCall → List Bool
seen_row s = s.outputs ++ s.answer ∷ []

pub c-keeps : (text : List ℕ) (given : List GivenRelation) (written : List ℕ) (net : Netlist) → IsSmallNetOf text given net → c_texts.Means written net
    → CKeeps text given written
c-keeps text given written net s means =
    let c = s.circuit in
    let p = means.program in
    record {
      old = c;
      reads = s.reads;
      relations = s.small.small.relations;
      related = related c given net s.small;
      names = output_names net;
      named = named c given net s.small;
      new = p;
      describes = means.describes;
      inputs = means.inputs ∙ ap (map (λ name. codes "I_" ++ name)) (inputs-kept c given net s.small);
      outputs = means.outputs ∙ sym (map-twice (λ name. codes "O_" ++ name) (λ (o : NetOut). o.name) net.outputs);
      shows = record {
        alike = λ items expected. (
          rows c given net s.small items expected,
          circuit-shows c given net s.small items expected,
          c-shows c given net s.small p items expected (means.shows items (wide c given net s.small items expected)),
        );
      };
    }
  where
    c-shows : (c : Circuit) (given : List GivenRelation) (net : Netlist) → (small : IsSmallOf c given net) → (p : Program) (items : List Item)
        → (expected : EachEvent (IsExpected c small.small.relations) items) → map (seen p) (memories p items) ≡ map c_texts.shown_by_call (net_run net items)
        → Shows (program_machine p) (λ memory. map memory (outputs_of p) ++ value_of memory p.answer ∷ []) (program_machine p).start items
        (rows c given net small items expected)
    c-shows c given net small p items expected same =
        subst (λ l. Shows (program_machine p) (λ memory. map memory (outputs_of p) ++ value_of memory p.answer ∷ []) (program_machine p).start items l)
        (sym (map-twice seen_row (seen p) (memories p items)) ∙ ap (map seen_row) same ∙ map-twice seen_row c_texts.shown_by_call (net_run net items))
        (shows-computed (first_memory p.states) (λ memory inputs. call p inputs memory) (λ memory inputs behind. behind)
        (λ memory. map memory (outputs_of p) ++ value_of memory p.answer ∷ []) (first_memory p.states) items)
