use Rattle.std.proofs.Common.{◌≡◌, ◌<◌, true, length, slice_index_or, slice_get, Some, sym, ap, ◌∙◌, subst, arith}
use Rattle.std.proofs.lemmas.Option.{get_or_from_slice_get}
use Rattle.base_types.specs.declared.indices.WireId.{WireId}
use Rattle.grc_graph.specs.declared.formulas.Formula.TheVariants.{Const}
use Rattle.grc_graph.proofs.Exports.{length-names}
use Rattle.net_gen.specs.Drawings.{drawing_of, with_wire}
use Rattle.net_gen.proofs.Rooms.{room-lowered, room-wire}
use Rattle.net_gen.proofs.WireSteps.{wires-step, order-ready}
use Rattle.net_gen.proofs.making.make_wires.Goals as goal

pub lower-requires-clause-ready : goal.lower-requires-clause-ready
lower-requires-clause-ready c =
    let g = c.args.graph.now in
    let order = c.args.order.now.list.items in
    let j = c.loop-wire.wire-index in
    let none : WireId = record { 0 = 0 } in
    let item = ap (λ xs. slice_index_or xs j none) c.as_slice-wire-items.ensures.value in
    let h : j < length order = omega (arith, ap length c.as_slice-wire-items.ensures.value) in
    let equation = ap (λ (v : WireId). slice_get g.equations.items v.0) (sym item) ∙ c.equation.ensures in
    order-ready g c.args.words.now (drawing_of c.args.circuit.now) (drawing_of c.loop-wire.circuit) c.equation.result.now order j c.requires.words
    c.loop-wire.invariant c.requires.placed c.requires.order h
    (get_or_from_slice_get g.equations.items (slice_index_or order j none).0 c.equation.result.now (Const true) equation)

pub loop-wire-preserved : goal.loop-wire-preserved
loop-wire-preserved c =
    let g = c.args.graph.now in
    let order = c.args.order.now.list.items in
    let j = c.loop-wire.wire-index in
    let none : WireId = record { 0 = 0 } in
    let item = ap (λ xs. slice_index_or xs j none) c.as_slice-wire-items.ensures.value in
    let h : j < length order = omega (arith, ap length c.as_slice-wire-items.ensures.value) in
    let equation = ap (λ (v : WireId). slice_get g.equations.items v.0) (sym item) ∙ c.equation.ensures in
    let low : (slice_index_or order j none).0 < length g.wires.items = omega (arith, c.requires.order.in_range j none h, length-names g) in
    let drawn = c.in_ok-carry.ensures.drawn ∙ ap (with_wire (drawing_of c.lower.new.circuit) c.in_ok-op.op) item in
    wires-step g c.args.words.now (drawing_of c.args.circuit.now) (drawing_of c.loop-wire.circuit) (drawing_of c.lower.new.circuit)
    (drawing_of c.carry.new.self)
    c.in_ok-op.op c.equation.result.now order j c.loop-wire.invariant h low
    (get_or_from_slice_get g.equations.items (slice_index_or order j none).0 c.equation.result.now (Const true) equation) c.in_ok-op.ensures drawn
    c.in_ok-carry.ensures.fits

pub lower-requires-clause-room : goal.lower-requires-clause-room
lower-requires-clause-room c =
    let g = c.args.graph.now in
    let order = c.args.order.now.list.items in
    let j = c.loop-wire.wire-index in
    let none : WireId = record { 0 = 0 } in
    let item = ap (λ xs. slice_index_or xs j none) c.as_slice-wire-items.ensures.value in
    let h : j < length order = omega (arith, ap length c.as_slice-wire-items.ensures.value) in
    let equation = ap (λ (v : WireId). slice_get g.equations.items v.0) (sym item) ∙ c.equation.ensures in
    let room = room-wire g c.args.words.now (drawing_of c.args.circuit.now) (drawing_of c.loop-wire.circuit) order c.equation.result.now j c.requires.sound
    c.loop-wire.invariant h (get_or_from_slice_get g.equations.items (slice_index_or order j none).0 c.equation.result.now (Const true) equation)
    c.requires.room in
    omega (arith, room)

pub carry-requires-clause-room : goal.carry-requires-clause-room
carry-requires-clause-room c =
    let g = c.args.graph.now in
    let order = c.args.order.now.list.items in
    let j = c.loop-wire.wire-index in
    let none : WireId = record { 0 = 0 } in
    let item = ap (λ xs. slice_index_or xs j none) c.as_slice-wire-items.ensures.value in
    let h : j < length order = omega (arith, ap length c.as_slice-wire-items.ensures.value) in
    let equation = ap (λ (v : WireId). slice_get g.equations.items v.0) (sym item) ∙ c.equation.ensures in
    let room = room-wire g c.args.words.now (drawing_of c.args.circuit.now) (drawing_of c.loop-wire.circuit) order c.equation.result.now j c.requires.sound
    c.loop-wire.invariant h (get_or_from_slice_get g.equations.items (slice_index_or order j none).0 c.equation.result.now (Const true) equation)
    c.requires.room in
    room-lowered g c.args.words.now (drawing_of c.loop-wire.circuit) (drawing_of c.lower.new.circuit) c.in_ok-op.op _ _ _ c.loop-wire.invariant.sound
    c.in_ok-op.ensures (omega arith) room
