use Rattle.std.proofs.Common.{◌++◌, map, take, drop, sym, ap, ◌∙◌, append_assoc}
use Rattle.std.proofs.lemmas.List.{take-map, drop-map}
use Rattle.std.proofs.lemmas.List.{take_rest}
use Rattle.base_types.specs.declared.interface.SignalInfo.{SignalInfo}
use Rattle.est_cover.proofs.programs.signals_with.Goals as goal

pub returns-clause-signals : goal.returns-clause-signals
returns-clause-signals c =
    let seen = c.args.seen in
    let signals = c.args.signals.now in
    let names = map (λ (s : SignalInfo). s.name) c.args.names.now in
    let all = map (λ (s : SignalInfo). s.name) signals in
    let first = c.in_ok-push_signals.ensures.names
    ∙ ap (λ l. map (λ (s : SignalInfo). s.name) l ++ map (λ (s : SignalInfo). s.name) (take seen signals)) c.new-all.ensures.items
    ∙ sym (take-map (λ (s : SignalInfo). s.name) seen signals) in
    let second = c.in_ok-push_signals-2.ensures.names ∙ ap (λ l. l ++ names) first in
    c.in_ok-push_signals-3.ensures.names
    ∙ ap (λ l. map (λ (s : SignalInfo). s.name) c.push_signals-2.new.all.items ++ map (λ (s : SignalInfo). s.name) l) (take_rest signals seen)
    ∙ ap (λ l. l ++ map (λ (s : SignalInfo). s.name) (drop seen signals)) second
    ∙ ap (λ l. (take seen all ++ names) ++ l) (sym (drop-map (λ (s : SignalInfo). s.name) seen signals))
    ∙ append_assoc (take seen all) names (drop seen all)
