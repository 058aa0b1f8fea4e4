use Rattle.std.proofs.Common.{◌+◌, map, take, sym, ap, subst, ◌∙◌}
use Rattle.std.specs.Prelude.{IfOk}
use Rattle.std.proofs.lemmas.List.{take-map}
use Rattle.base_types.specs.declared.interface.SignalInfo.{SignalInfo}
use Rattle.base_types.specs.Distinct.{all_differ}
use Rattle.base_types.specs.Names.{is_same_name}
use Rattle.est_cover.specs.NewNames.{AreNew}
use Rattle.est_cover.proofs.names.new_names.Goals as goal

pub names_beside-requires-clause-differ : goal.names_beside-requires-clause-differ
names_beside-requires-clause-differ c =
    let flat = c.args.flat.now in
    let seen = flat.inputs + (flat.both + flat.outputs) in
    ap (all_differ is_same_name)
    (ap (λ l. map (λ (s : SignalInfo). s.name) (take seen l)) c.deref.ensures.value ∙ sym (take-map (λ (s : SignalInfo). s.name) seen flat.signals.items))
    ∙ c.requires.differ

pub returns-clause-new : goal.returns-clause-new
returns-clause-new c =
    let flat = c.args.flat.now in
    let seen = flat.inputs + (flat.both + flat.outputs) in
    subst (λ g. IfOk c.names_beside.result (λ v. AreNew g (map (λ (s : SignalInfo). s.name) v.items)))
    (ap (λ l. map (λ (s : SignalInfo). s.name) (take seen l)) c.deref.ensures.value ∙ sym (take-map (λ (s : SignalInfo). s.name) seen flat.signals.items))
    c.names_beside.ensures.new
