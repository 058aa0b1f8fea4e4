use Rattle.std.proofs.Common.{◌≡◌, ◌++◌, map, take}
use Rattle.blif_text.specs.Plain.{plain_latch, plain_table}
use Rattle.blif_run.proofs.slots.driven_names.Given as goal

abbrev pub invariant-loop-name : goal.invariant-loop-name
invariant-loop-name l = map (λ w. w.now) l.names.items ≡ take l.name-index l.blif.inputs.items

abbrev pub invariant-loop-latch : goal.invariant-loop-latch
invariant-loop-latch l =
    map (λ w. w.now) l.names.items ≡ l.blif.inputs.items ++ map (λ x. x.target) (map plain_latch (take l.latch-index l.blif.latches.items))

abbrev pub invariant-loop-table : goal.invariant-loop-table
invariant-loop-table l =
    map (λ w. w.now) l.names.items
    ≡ l.blif.inputs.items ++ (map (λ x. x.target) (map plain_latch l.blif.latches.items) ++ map (λ t. t.output) (map plain_table
    (take l.table-index l.blif.tables.items)))
