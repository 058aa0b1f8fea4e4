use Rattle.std.proofs.Common.{◌≡◌, false, length, take, slice_index_or, Some, None, ap, sym, ◌∙◌, subst}
use Rattle.std.proofs.lemmas.List.{take_more, take_all}
use Rattle.base_types.specs.declared.indices.WireId.{WireId}
use Rattle.net_gen.specs.Drawings.{drawing_of}
use Rattle.net_ir.specs.declared.netlist.Op.TheVariants.{Copy}
use Rattle.grc_graph.specs.GateCosts.{any_cost}
use Rattle.net_gen.specs.Growing.{Joins, Lowers}
use Rattle.net_gen.specs.Senses.{any_sense}
use Rattle.net_gen.proofs.Joining.{joins-wires, joins-step, joins-none}
use Rattle.net_gen.proofs.Rooms.{room-joined}
use Rattle.net_gen.proofs.formulas.any_of.Goals as goal

pub entry-own-requires : goal.entry-own-requires
entry-own-requires c =
    let none : WireId = record { 0 = 0 } in
    let list = c.args.wires.now in
    let at = c.loop-wire.wire-index in
    let ready = c.requires.ready at none c.loop-wire-test.true in
    let same = joins-wires c.args.graph.now c.args.words.now (drawing_of c.args.circuit.now) (drawing_of c.loop-wire.circuit) c.loop-wire.so_far (take at list)
    c.loop-wire.invariant in
    (ready.0, ap (λ ws. slice_index_or ws (slice_index_or list at none).0 None) (c.deref.ensures.value ∙ same) ∙ ready.1)

pub loop-wire-preserved : goal.loop-wire-preserved
loop-wire-preserved c =
    let none : WireId = record { 0 = 0 } in
    let list = c.args.wires.now in
    let at = c.loop-wire.wire-index in
    let v = slice_index_or list at none in
    let own = ap (λ ws. slice_index_or ws v.0 None) (sym c.deref.ensures.value) ∙ c.entry-own.ensures in
    let step = joins-step c.args.graph.now c.args.words.now (drawing_of c.args.circuit.now) (drawing_of c.loop-wire.circuit) (drawing_of c.join.new.self)
    c.loop-wire.so_far c.in_ok-op.op c.entry-own.result (take at list) v c.requires.sound c.loop-wire.invariant own
    c.in_ok-op.ensures.drawn c.in_ok-op.ensures.op c.in_ok-op.ensures.fits in
    subst (λ xs. Joins c.args.graph.now c.args.words.now (drawing_of c.args.circuit.now) (drawing_of c.join.new.self) (Some c.in_ok-op.op) xs)
    (sym (take_more list at none c.loop-wire-test.true)) step

pub returns-in-None : goal.returns-in-None
returns-in-None c =
    let g = c.args.graph.now in
    let w = c.args.words.now in
    let list = c.args.wires.now in
    let at = c.loop-wire.wire-index in
    let whole = take_all at list c.loop-wire-test.false in
    let joined = joins-none g w (drawing_of c.args.circuit.now) (drawing_of c.loop-wire.circuit) c.loop-wire.so_far (take at list) c.requires.sound
    c.loop-wire.invariant c.in-None.is in
    subst (λ xs. Lowers g w (drawing_of c.args.circuit.now) (drawing_of c.loop-wire.circuit) (Copy c.loop-wire.circuit.no) (any_sense g xs)
    (any_cost (length xs))) whole joined

pub join-requires : goal.join-requires
join-requires c =
    room-joined c.args.graph.now c.args.words.now (drawing_of c.args.circuit.now) (drawing_of c.loop-wire.circuit) c.loop-wire.so_far c.args.wires.now
    c.loop-wire.wire-index c.requires.sound c.loop-wire.invariant c.loop-wire-test.true c.requires.room
