use Rattle.std.proofs.Common.{◌≡◌, map, take}
use Rattle.run_steps.proofs.slots.slot_table.Given as goal

abbrev pub invariant-loop-name : goal.invariant-loop-name
invariant-loop-name l = map (λ k. k.now) l.slots.keys ≡ take l.name-index (map (λ w. w.now) l.names)
