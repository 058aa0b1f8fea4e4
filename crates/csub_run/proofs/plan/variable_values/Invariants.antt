use Rattle.std.proofs.Common.{◌≡◌, ◌++◌, false, map, take}
use Rattle.csub_text.specs.Views.{state_of}
use Rattle.csub_run.proofs.plan.variable_values.Given as goal

abbrev pub invariant-loop-state : goal.invariant-loop-state
invariant-loop-state l = l.values.items ≡ map (λ s. s.init) (map state_of (take l.state-index l.states))

abbrev pub invariant-loop : goal.invariant-loop
invariant-loop l = l.values.items ≡ map (λ s. s.init) (map state_of l.states) ++ map (λ _. false) (take l.index l.globals)

abbrev pub invariant-loop-2 : goal.invariant-loop-2
invariant-loop-2 l =
    l.values.items
    ≡ (map (λ s. s.init) (map state_of l.states) ++ map (λ _. false) l.globals)
    ++ map (λ _. false) (take l.index l.locals)
