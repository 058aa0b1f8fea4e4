use Rattle.std.proofs.Common.{◌≡◌, ◌++◌, map, drop}
use Rattle.std.specs.Prelude.{filter}
use Rattle.csub_text.specs.Grammar.{begins_output}
use Rattle.run_steps.specs.Slots.{slot_in}
use Rattle.csub_run.proofs.plan.output_slots.Given as goal

abbrev pub invariant-loop-name : goal.invariant-loop-name
invariant-loop-name l =
    map (slot_in (map (λ k. k.now) l.slots.keys)) (filter begins_output l.globals)
    ≡ l.found.items ++ map (slot_in (map (λ k. k.now) l.slots.keys)) (filter begins_output (drop l.name-index l.globals))
