use Rattle.std.proofs.Common.{◌+◌, map, take, sym, ap, subst, ◌∙◌, All, IsTrue}
use Rattle.std.proofs.lemmas.Bool.{and_parts}
use Rattle.std.proofs.lemmas.List.{take-map}
use Rattle.base_types.specs.declared.interface.SignalInfo.{SignalInfo}
use Rattle.base_types.specs.Names.{is_name}
use Rattle.est_cover.proofs.FreshNames.{named-all}
use Rattle.est_cover.proofs.names.is_named.Goals as goal

pub returns : goal.returns
returns c = λ h.
    let flat = c.args.flat.now in
    let seen = flat.inputs + (flat.both + flat.outputs) in
    let parts = and_parts c.is_written-written.result c.are_written-all.result (sym c.both.ensures ∙ h) in
    record {
      name = ap is_name (sym c.bytes.ensures) ∙ sym c.is_written-written.ensures ∙ parts.0;
      names = subst (All (λ n. IsTrue (is_name n)))
          (ap (λ l. map (λ (s : SignalInfo). s.name) (take seen l)) c.deref.ensures.value
          ∙ sym (take-map (λ (s : SignalInfo). s.name) seen flat.signals.items)) (named-all _ (sym c.are_written-all.ensures ∙ parts.1));
    }
