use Rattle.std.proofs.Common.{◌≡◌, ◌+◌, ◌-◌, ◌<◌, ◌≤◌, length, take, ap, subst, arith, sym}
use Rattle.std.specs.List.{sum_by}
use Rattle.std.proofs.lemmas.List.{take_all}
use Rattle.net_gen.specs.Costs.{wire_cost}
use Rattle.net_gen.specs.Drawings.{drawing_of}
use Rattle.net_gen.specs.Making.{RowsMade}
use Rattle.net_gen.specs.Readiness.{RowsReady}
use Rattle.net_gen.proofs.Composition.{wires-placed, early-stay, wires-stay, circuit-made}
use Rattle.net_gen.proofs.Reading.{late-ready}
use Rattle.net_gen.proofs.whole.make_circuit.Goals as goal

pub make_rows-requires-2-clause-placed : goal.make_rows-requires-2-clause-placed
make_rows-requires-2-clause-placed c =
    early-stay c.args.graph.now c.args.words.now (drawing_of c.make_rows.new.circuit) (drawing_of c.make_wires.new.circuit) c.args.order.now.list.items
    (length c.args.order.now.list.items) c.args.words.now.early c.in_ok-make_rows.ensures.placed c.in_ok-make_wires.ensures

pub make_rows-requires-2-clause-ready : goal.make_rows-requires-2-clause-ready
make_rows-requires-2-clause-ready c =
    let g = c.args.graph.now in
    let w = c.args.words.now in
    let two = drawing_of c.make_wires.new.circuit in
    let m = c.in_ok-make_wires.ensures in
    let many : c.len.result ≡ length w.rows.items = omega (arith, w.rows.ok.0, c.len.ensures) in
    let placed = wires-placed g w (drawing_of c.make_rows.new.circuit) two _ c.args.order.now.list.items m c.requires.order in
    subst (λ n. RowsReady w two w.early n) (sym many) (late-ready g w two w.early m.sound c.requires.words.fit placed)

pub make_next-requires-clause-wires : goal.make_next-requires-clause-wires
make_next-requires-clause-wires c =
    let g = c.args.graph.now in
    let w = c.args.words.now in
    let placed = wires-placed g w (drawing_of c.make_rows.new.circuit) (drawing_of c.make_wires.new.circuit) _ c.args.order.now.list.items
    c.in_ok-make_wires.ensures c.requires.order in
    wires-stay g w (drawing_of c.make_wires.new.circuit) (drawing_of c.make_rows-2.new.circuit) w.early c.len.result (length g.wires.items) placed
    c.in_ok-make_rows-2.ensures

pub returns : goal.returns
returns c =
    let g = c.args.graph.now in
    let w = c.args.words.now in
    let many : c.len.result ≡ length w.rows.items = omega (arith, w.rows.ok.0, c.len.ensures) in
    let late = subst (λ n. RowsMade g w (drawing_of c.make_wires.new.circuit) (drawing_of c.make_rows-2.new.circuit) w.early n) many
    c.in_ok-make_rows-2.ensures in
    circuit-made g w (drawing_of c.in_ok-circuit.circuit) (drawing_of c.make_rows.new.circuit) (drawing_of c.make_wires.new.circuit)
    (drawing_of c.make_rows-2.new.circuit) (drawing_of c.make_next.new.circuit) _ c.args.order.now.list.items c.in_ok-next.next.items c.requires.order
    c.requires.words c.in_ok-circuit.ensures c.in_ok-make_rows.ensures c.in_ok-make_wires.ensures late c.in_ok-next.ensures

pub make_rows-requires-clause-room : goal.make_rows-requires-clause-room
make_rows-requires-clause-room c =
    let b = c.in_ok-circuit.ensures in
    omega (arith, b.sound.first, b.within, c.requires.words.fit.early, c.requires.room)

pub make_wires-requires-clause-room : goal.make_wires-requires-clause-room
make_wires-requires-clause-room c =
    let b = c.in_ok-circuit.ensures in
    let early = c.in_ok-make_rows.ensures in
    omega (arith, early.sound.first, b.within, early.within, c.requires.words.fit.early, c.requires.room)

pub make_rows-requires-2-clause-room : goal.make_rows-requires-2-clause-room
make_rows-requires-2-clause-room c =
    let g = c.args.graph.now in
    let order = c.args.order.now.list.items in
    let many : c.len.result ≡ length c.args.words.now.rows.items = omega (arith, c.args.words.now.rows.ok.0, c.len.ensures) in
    let b = c.in_ok-circuit.ensures in
    let early = c.in_ok-make_rows.ensures in
    let wires = c.in_ok-make_wires.ensures in
    let costs = ap (sum_by (wire_cost g)) (take_all (length order) order (omega arith)) in
    omega (arith, wires.sound.first, b.within, early.within, wires.within, costs, many, c.requires.words.fit.early, c.requires.room)

pub make_next-requires-clause-room : goal.make_next-requires-clause-room
make_next-requires-clause-room c =
    let g = c.args.graph.now in
    let order = c.args.order.now.list.items in
    let many : c.len.result ≡ length c.args.words.now.rows.items = omega (arith, c.args.words.now.rows.ok.0, c.len.ensures) in
    let b = c.in_ok-circuit.ensures in
    let early = c.in_ok-make_rows.ensures in
    let wires = c.in_ok-make_wires.ensures in
    let late = c.in_ok-make_rows-2.ensures in
    let costs = ap (sum_by (wire_cost g)) (take_all (length order) order (omega arith)) in
    omega (arith, late.sound.first, b.within, early.within, wires.within, late.within, costs, many, c.requires.words.fit.early, c.requires.room)
