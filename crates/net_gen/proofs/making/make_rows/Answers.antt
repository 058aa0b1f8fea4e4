use Rattle.std.proofs.Common.{◌≡◌, ◌<◌, length, slice_index_or, sym, subst, arith}
use Rattle.net_gen.specs.Drawings.{drawing_of}
use Rattle.net_gen.specs.Readiness.{RowReads, RowReady}
use Rattle.net_gen.proofs.Rooms.{room-row}
use Rattle.net_gen.proofs.RowSteps.{row-now, rows-step}
use Rattle.net_gen.proofs.making.make_rows.Goals as goal

pub row-op-requires : goal.row-op-requires
row-op-requires c =
    let old = drawing_of c.args.circuit.now in
    let k = c.loop-row.row in
    let x = c.index.result.now in
    let m = c.loop-row.invariant in
    let reads = subst (λ y. RowReads old k y) (sym c.index.ensures) (c.requires.ready k x c.loop-row.auto.row c.loop-row-test.true) in
    row-now c.args.graph.now c.args.words.now old (drawing_of c.loop-row.circuit) k x c.requires.sound m.sound m.wires m.placed reads

pub loop-row-preserved : goal.loop-row-preserved
loop-row-preserved c =
    let g = c.args.graph.now in
    let w = c.args.words.now in
    let old = drawing_of c.args.circuit.now in
    let now = drawing_of c.loop-row.circuit in
    let k = c.loop-row.row in
    let x = c.index.result.now in
    let m = c.loop-row.invariant in
    let read = sym c.index.ensures in
    let low : k < length w.rows.items = omega arith in
    let reads = subst (λ y. RowReads old k y) read (c.requires.ready k x c.loop-row.auto.row c.loop-row-test.true) in
    let ready = row-now g w old now k x c.requires.sound m.sound m.wires m.placed reads in
    rows-step g w old now (drawing_of c.add_row.new.self) c.row-op.result c.args.from k x m c.requires.words.fit low read ready c.row-op.ensures
    c.in_ok-add_row.ensures.drawn c.in_ok-add_row.ensures.fits

pub add_row-requires-clause-room : goal.add_row-requires-clause-room
add_row-requires-clause-room c =
    room-row c.args.graph.now c.args.words.now (drawing_of c.args.circuit.now) (drawing_of c.loop-row.circuit) c.args.from c.loop-row.row c.args.to
    c.requires.sound c.loop-row.invariant c.loop-row.auto.row c.loop-row-test.true c.requires.room
