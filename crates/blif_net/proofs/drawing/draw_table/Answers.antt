use Rattle.std.proofs.Common.{◌+◌, ◌<◌, List, length, map, All, slice_index_or, sym, ap, subst, ◌∙◌}
use Rattle.base_types.specs.declared.indices.NetId.{NetId}
use Rattle.blif_text.specs.Plain.{plain_row}
use Rattle.blif_net.proofs.SlotDepths.{adds-depth}
use Rattle.blif_net.proofs.Slots.{settles-table, nets-low}
use Rattle.blif_net.proofs.drawing.draw_table.Goals as goal

abbrev none : NetId
none = record { 0 = 0 }

pub table_net-requires-clause-low : goal.table_net-requires-clause-low
table_net-requires-clause-low c =
    let d = c.args.drawing.now in
    let reads = c.args.reads.now in
    let are = c.deref-2.ensures.value ∙ c.in_ok-inputs.ensures ∙ ap (λ nets. map (λ s. slice_index_or nets s none) reads) c.deref.ensures.value in
    subst (λ (l : List NetId). All (λ n. n.0 < c.args.first + length d.gates.items) l) (sym are)
    (nets-low (c.args.first + length d.gates.items) d.nets.items reads c.requires.low c.requires.reads)

pub returns-clause-adds : goal.returns-clause-adds
returns-clause-adds c =
    let d = c.args.drawing.now in
    let reads = c.args.reads.now in
    let are = c.deref-2.ensures.value ∙ c.in_ok-inputs.ensures ∙ ap (λ nets. map (λ s. slice_index_or nets s none) reads) c.deref.ensures.value in
    settles-table c.args.first d.gates.items c.table_net.new.gates.items d.nets.items c.deref-2.result.now c.in_ok-net.net reads c.args.slot
    (map plain_row c.args.rows.now) c.requires.low c.requires.reads c.requires.slot are c.in_ok-net.ensures.draws

pub returns-clause-deep : goal.returns-clause-deep
returns-clause-deep c =
    let d = c.args.drawing.now in
    let reads = c.args.reads.now in
    let are = c.deref-2.ensures.value ∙ c.in_ok-inputs.ensures ∙ ap (λ nets. map (λ s. slice_index_or nets s none) reads) c.deref.ensures.value in
    let drawn = c.in_ok-net.ensures.draws in
    adds-depth c.args.first d.gates.items c.table_net.new.gates.items drawn.more d.nets.items c.deref-2.result.now c.in_ok-net.net reads c.args.slot
    (map plain_row c.args.rows.now) c.requires.low c.requires.reads are drawn.added c.in_ok-net.ensures.deep
