use Rattle.std.proofs.Common.{◌≡◌, ◌+◌, ◌-◌, map, take, drop, sym, ap, ◌∙◌, arith}
use Rattle.std.proofs.lemmas.List.{take-map, drop-map}
use Rattle.base_types.specs.declared.interface.SignalInfo.{SignalInfo}
use Rattle.cec_commands.proofs.commands.tri.named_interface.Goals as goal

pub returns : goal.returns
returns c =
    let inputs = c.args.program.now.inputs in
    let both = c.args.program.now.both in
    let outputs = c.args.program.now.outputs in
    let signals = c.args.program.now.signals.items in
    let few : inputs + both + outputs - inputs ≡ both + outputs = omega arith in
    record {
      given = c.in_ok-signal_names.ensures ∙ ap (λ l. map (λ (s : SignalInfo). s.name) (take (inputs + both) l)) c.deref.ensures.value
          ∙ sym (take-map (λ (s : SignalInfo). s.name) (inputs + both) signals);
      outgoing =
          c.in_ok-signal_names-2.ensures
          ∙ ap (λ l. map (λ (s : SignalInfo). s.name) (take (inputs + both + outputs - inputs) (drop inputs l))) c.deref-2.ensures.value
          ∙ ap (λ n. map (λ (s : SignalInfo). s.name) (take n (drop inputs signals))) few
          ∙ sym (take-map (λ (s : SignalInfo). s.name) (both + outputs) (drop inputs signals))
          ∙ ap (take (both + outputs)) (sym (drop-map (λ (s : SignalInfo). s.name) inputs signals));
      relations = c.requires.relations;
    }
