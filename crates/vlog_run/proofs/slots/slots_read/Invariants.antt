use Rattle.std.proofs.Common.{◌≡◌, map, take}
use Rattle.net_expressions.specs.Names.{names_in}
use Rattle.run_steps.specs.Slots.{slot_in}
use Rattle.vlog_text.specs.Views.{assign_of}
use Rattle.vlog_run.proofs.slots.slots_read.Given as goal

abbrev pub invariant-loop-assign : goal.invariant-loop-assign
invariant-loop-assign l = map (λ r. r.items) l.reads.items ≡ map (λ a. map (slot_in (map (λ k. k.now) l.slots.keys)) (names_in a.value)) (map assign_of
    (take l.assign-index l.assigns))
