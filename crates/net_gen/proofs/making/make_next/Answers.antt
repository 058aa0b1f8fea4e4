use Rattle.std.proofs.Common.{◌≡◌, ◌+◌, ◌<◌, length, slice_index_or, sym, ap, ◌∙◌, subst, arith, IsTrue}
use Rattle.std.proofs.lemmas.List.{get_or_default}
use Rattle.grc_graph.specs.GraphShapes.{formula_fits}
use Rattle.net_gen.specs.Drawings.{drawing_of}
use Rattle.net_gen.specs.Making.{NextMade}
use Rattle.net_gen.proofs.Lowering.{placed-stays}
use Rattle.net_gen.proofs.Reading.{ready-late}
use Rattle.net_gen.proofs.Rooms.{room-lowered, room-next}
use Rattle.net_gen.proofs.WireSteps.{next-step}
use Rattle.net_gen.proofs.making.make_next.Goals as goal

pub lower-requires-clause-ready : goal.lower-requires-clause-ready
lower-requires-clause-ready c =
    let g = c.args.graph.now in
    let w = c.args.words.now in
    let old = drawing_of c.args.circuit.now in
    let now = drawing_of c.loop-formula.circuit in
    let j = c.loop-formula.formula-index in
    let f = c.formula-item.result in
    let m = c.loop-formula.invariant in
    let h : j < length g.next.items = omega (arith, ap length c.as_slice-formula-items.ensures.value) in
    let is : f ≡ slice_index_or g.next.items j f = c.formula-item.is ∙ ap (λ xs. slice_index_or xs j f) c.as_slice-formula-items.ensures.value in
    let fits = subst (λ x. IsTrue (formula_fits (length g.instances.list.items) (length g.wires.items) x)) (sym is) (g.indices.next_fit j f h) in
    ready-late g w now f m.grew.sound c.requires.words (λ v low. placed-stays old.wires now.wires v m.grew.wires (c.requires.wires v low))
    (λ r low. placed-stays old.rows now.rows r m.grew.rows (c.requires.rows r low)) fits

pub loop-formula-preserved : goal.loop-formula-preserved
loop-formula-preserved c =
    let g = c.args.graph.now in
    let w = c.args.words.now in
    let j = c.loop-formula.formula-index in
    let f = c.formula-item.result in
    let h : j < length g.next.items = omega (arith, ap length c.as_slice-formula-items.ensures.value) in
    let is : f ≡ slice_index_or g.next.items j f = c.formula-item.is ∙ ap (λ xs. slice_index_or xs j f) c.as_slice-formula-items.ensures.value in
    let step = next-step g w (drawing_of c.args.circuit.now) (drawing_of c.loop-formula.circuit) (drawing_of c.lower.new.circuit) (drawing_of c.net.new.self)
    c.in_ok-op.op c.in_ok-net.net f c.loop-formula.nets.items j c.loop-formula.invariant h is c.in_ok-op.ensures c.in_ok-net.ensures.drawn
    c.in_ok-net.ensures.number c.in_ok-net.ensures.fits in
    subst (λ xs. NextMade g w (drawing_of c.args.circuit.now) (drawing_of c.net.new.self) xs (j + 1)) (sym c.in_ok-push.ensures.items) step

pub returns : goal.returns
returns c =
    let g = c.args.graph.now in
    let whole : c.loop-formula.formula-index ≡ length g.next.items = omega (arith, ap length c.as_slice-formula-items.ensures.value) in
    subst (λ n. NextMade g c.args.words.now (drawing_of c.args.circuit.now) (drawing_of c.loop-formula.circuit) c.loop-formula.nets.items n) whole
    c.loop-formula.invariant

pub lower-requires-clause-room : goal.lower-requires-clause-room
lower-requires-clause-room c =
    let g = c.args.graph.now in
    let j = c.loop-formula.formula-index in
    let f = c.formula-item.result in
    let h : j < length g.next.items = omega (arith, ap length c.as_slice-formula-items.ensures.value) in
    let is : f ≡ slice_index_or g.next.items j f = c.formula-item.is ∙ ap (λ xs. slice_index_or xs j f) c.as_slice-formula-items.ensures.value in
    room-next g c.args.words.now (drawing_of c.args.circuit.now) (drawing_of c.loop-formula.circuit) c.loop-formula.nets.items f j c.requires.sound
    c.loop-formula.invariant h is c.requires.room

pub net-requires : goal.net-requires
net-requires c =
    let g = c.args.graph.now in
    let w = c.args.words.now in
    let j = c.loop-formula.formula-index in
    let f = c.formula-item.result in
    let now = drawing_of c.loop-formula.circuit in
    let h : j < length g.next.items = omega (arith, ap length c.as_slice-formula-items.ensures.value) in
    let is : f ≡ slice_index_or g.next.items j f = c.formula-item.is ∙ ap (λ xs. slice_index_or xs j f) c.as_slice-formula-items.ensures.value in
    let room = room-next g w (drawing_of c.args.circuit.now) now c.loop-formula.nets.items f j c.requires.sound c.loop-formula.invariant h is c.requires.room in
    room-lowered g w now (drawing_of c.lower.new.circuit) c.in_ok-op.op _ _ _ c.loop-formula.invariant.grew.sound c.in_ok-op.ensures (omega arith) room
