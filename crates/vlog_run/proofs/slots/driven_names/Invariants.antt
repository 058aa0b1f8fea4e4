use Rattle.std.proofs.Common.{◌≡◌, ◌++◌, map, take, drop}
use Rattle.vlog_text.specs.Views.{assign_of, register_of}
use Rattle.vlog_run.proofs.slots.driven_names.Given as goal

abbrev pub invariant-loop-name : goal.invariant-loop-name
invariant-loop-name l = map (λ w. w.now) l.names.items ≡ take l.name-index l.name-items

abbrev pub invariant-loop-register : goal.invariant-loop-register
invariant-loop-register l =
    map (λ w. w.now) l.names.items
    ≡ drop 1 l.design.inputs.items ++ map (λ x. x.name) (map register_of (take l.register-index l.design.registers.items))

abbrev pub invariant-loop-assign : goal.invariant-loop-assign
invariant-loop-assign l =
    map (λ w. w.now) l.names.items
    ≡ drop 1 l.design.inputs.items ++ (map (λ x. x.name) (map register_of l.design.registers.items) ++ map (λ x. x.target) (map assign_of
    (take l.assign-index l.design.assigns.items)))
