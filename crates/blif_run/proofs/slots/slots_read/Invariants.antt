use Rattle.std.proofs.Common.{◌≡◌, map, take}
use Rattle.blif_text.specs.Plain.{plain_table}
use Rattle.run_steps.specs.Slots.{slot_in}
use Rattle.blif_run.proofs.slots.slots_read.Given as goal

abbrev pub invariant-loop-table : goal.invariant-loop-table
invariant-loop-table l = map (λ r. r.items) l.reads.items ≡ map (λ t. map (slot_in (map (λ k. k.now) l.slots.keys)) t.inputs) (map plain_table
    (take l.table-index l.tables))
