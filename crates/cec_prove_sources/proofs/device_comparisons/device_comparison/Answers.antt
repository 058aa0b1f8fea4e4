use Rattle.std.proofs.Common.{◌∙◌, List, map, refl, sym, ap, subst}
use Rattle.std.specs.Prelude.{IfOk}
use Rattle.std.specs.Cmp.Lexicographic.{pointwise}
use Rattle.base_types.specs.Names.{is_same_name}
use Rattle.base_types.specs.Relations.{Relation, relation_of}
use Rattle.net_ir.specs.declared.netlist.NetOut.{NetOut}
use Rattle.net_ir.specs.Netlists.{output_names}
use Rattle.net_ir.specs.Runs.{netlist_of}
use Rattle.cec_prove_sources.specs.DeviceSameness.{IsDeviceComparison}
use Rattle.cec_prove_sources.specs.NetDevices.{net_device}
use Rattle.cec_prove_sources.proofs.SameLists.{names-other, names-same, relations-other, relations-same}
use Rattle.cec_prove_sources.proofs.device_comparisons.device_comparison.Goals as goal

pub returns-then-not-are_same_names : goal.returns-then-not-are_same_names
returns-then-not-are_same_names c =
    let left = netlist_of c.args.left.now in
    let right = netlist_of c.args.right.now in
    names-other left.inputs right.inputs
    ((λ i. pointwise is_same_name (sym c.deref.ensures.value i) (sym c.deref-2.ensures.value i)) ∙ sym c.are_same_names.ensures
    ∙ c.if-not-are_same_names.true)

pub returns-then-not-are_same_outputs : goal.returns-then-not-are_same_outputs
returns-then-not-are_same_outputs c =
    let left = netlist_of c.args.left.now in
    let right = netlist_of c.args.right.now in
    let l = ap (map (λ (o : NetOut). o.name)) c.deref-3.ensures.value in
    let r = ap (map (λ (o : NetOut). o.name)) c.deref-4.ensures.value in (
      names-same left.inputs right.inputs
          ((λ i. pointwise is_same_name (sym c.deref.ensures.value i) (sym c.deref-2.ensures.value i)) ∙ sym c.are_same_names.ensures
          ∙ c.if-not-are_same_names.false),
      names-other (output_names left) (output_names right)
          ((λ i. pointwise is_same_name (sym l i) (sym r i)) ∙ sym c.are_same_outputs.ensures ∙ c.if-not-are_same_outputs.true),
    )

pub returns-then-not-are_same_relations : goal.returns-then-not-are_same_relations
returns-then-not-are_same_relations c =
    relations-other (map relation_of c.args.relations.now) (map relation_of c.args.others.now)
    (sym c.are_same_relations.ensures ∙ c.if-not-are_same_relations.true)

pub paired-requires-clause-names : goal.paired-requires-clause-names
paired-requires-clause-names c =
    let left = netlist_of c.args.left.now in
    let right = netlist_of c.args.right.now in
    let l = ap (map (λ (o : NetOut). o.name)) c.deref-3.ensures.value in
    let r = ap (map (λ (o : NetOut). o.name)) c.deref-4.ensures.value in
    record {
      inputs = names-same left.inputs right.inputs
          ((λ i. pointwise is_same_name (sym c.deref.ensures.value i) (sym c.deref-2.ensures.value i)) ∙ sym c.are_same_names.ensures
          ∙ c.if-not-are_same_names.false);
      outputs = names-same (output_names left) (output_names right)
          ((λ i. pointwise is_same_name (sym l i) (sym r i)) ∙ sym c.are_same_outputs.ensures ∙ c.if-not-are_same_outputs.false);
      relations = refl;
    }

pub returns : goal.returns
returns c =
    let relations = map relation_of c.args.relations.now in
    let left = netlist_of c.args.left.now in
    let right = netlist_of c.args.right.now in
    subst (λ (rs : List Relation). IfOk c.paired.result (IsDeviceComparison (net_device relations left) (net_device rs right)))
    (relations-same relations (map relation_of c.args.others.now) (sym c.are_same_relations.ensures ∙ c.if-not-are_same_relations.false)) c.paired.ensures
