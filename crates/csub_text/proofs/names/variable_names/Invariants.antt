use Rattle.std.proofs.Common.{◌≡◌, ◌++◌, map, take}
use Rattle.csub_text.specs.Views.{state_of}
use Rattle.csub_text.proofs.names.variable_names.Given as goal

abbrev pub invariant-loop-state : goal.invariant-loop-state
invariant-loop-state l = map (λ w. w.now) l.names.items ≡ map (λ s. s.name) (map state_of (take l.state-index l.states))

abbrev pub invariant-loop-name : goal.invariant-loop-name
invariant-loop-name l =
    map (λ w. w.now) l.names.items ≡ map (λ s. s.name) (map state_of l.states) ++ take l.name-index l.globals

abbrev pub invariant-loop-name-2 : goal.invariant-loop-name-2
invariant-loop-name-2 l =
    map (λ w. w.now) l.names.items
    ≡ (map (λ s. s.name) (map state_of l.states) ++ l.globals) ++ take l.name-index l.locals
