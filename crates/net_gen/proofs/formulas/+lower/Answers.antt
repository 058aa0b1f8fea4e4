use Rattle.std.proofs.Common.{◌≡◌, ◌+◌, length, slice_index_or, map, sym, ap, ◌∙◌, subst, arith, false, List, All, None}
use Rattle.std.proofs.lemmas.List.{get_or_default}
use Rattle.base_types.specs.declared.indices.WireId.{WireId}
use Rattle.grc_graph.specs.declared.formulas.Formula.{Formula}
use Rattle.grc_graph.specs.declared.formulas.Formula.TheVariants as formulas
use Rattle.grc_graph.specs.Formulas.{Negation, Conjunction, Disjunction, any_of, Value}
use Rattle.grc_graph.specs.PlainGraphs.{formula_of, instances_of, names_of, wire_at}
use Rattle.grc_formulas.specs.declared.table.Source.TheVariants.{Const}
use Rattle.grc_formulas.specs.WordLaws.{selected_source}
use Rattle.net_ir.specs.declared.netlist.Op.TheVariants.{Copy}
use Rattle.grc_graph.specs.GateCosts.{cost_of, any_cost}
use Rattle.net_gen.specs.Drawings.{drawing_of, Placed}
use Rattle.net_gen.specs.Growing.{Lowers}
use Rattle.net_gen.specs.Readiness.{FormulaReady, kept_source, held_source, source_net}
use Rattle.net_gen.specs.Senses.{form_sense, any_sense}
use Rattle.net_gen.proofs.Lowering.{lowers-same, not-lowered, and-lowered, or-lowered, second-ready}
use Rattle.net_gen.proofs.Wording.{lowers-const, lowers-boot, lowers-input, lowers-wire, lowers-selected, lowers-kept, lowers-held, lowers-upto, lowers-any}
use Rattle.net_gen.proofs.Growth.{places-lowered}
use Rattle.net_gen.proofs.Rooms.{room-lowered, room-placed}
use Rattle.net_gen.proofs.Weights.{weight}
use Rattle.net_gen.proofs.formulas.+lower.Goals as goal

pub ends_op-requires-clause-ready : goal.ends_op-requires-clause-ready
ends_op-requires-clause-ready t c =
    let ready = subst (FormulaReady c.args.graph.now c.args.words.now (drawing_of c.args.circuit.now)) c.in-Upto.is c.requires.ready in
    ready.1

pub lower-requires-in-And-2 : goal.lower-requires-in-And-2
lower-requires-in-And-2 t c =
    let g = c.args.graph.now in
    let w = c.args.words.now in
    let old = drawing_of c.args.circuit.now in
    let ready = subst (FormulaReady g w old) c.in-And.is c.requires.ready in
    let right = subst (FormulaReady g w old) (sym c.deref-in-And-2.ensures) ready.1 in
    let next = second-ready g w old (drawing_of c.lower-in-And.new.circuit)
    (drawing_of c.net-in-And.new.self) c.deref-in-And.result.now c.deref-in-And-2.result.now
    c.in_ok-op-in-And.op c.in_ok-first-in-And.first c.requires.sound c.in_ok-op-in-And.ensures c.in_ok-first-in-And.ensures.drawn
    c.in_ok-first-in-And.ensures.number c.in_ok-first-in-And.ensures.fits right in
    let whole = ap weight c.in-And.is in
    let part = ap weight c.deref-in-And-2.ensures in
    let first = places-lowered g w old (drawing_of c.lower-in-And.new.circuit) (drawing_of c.net-in-And.new.self) c.in_ok-op-in-And.op
    c.in_ok-first-in-And.first.0 _ (cost_of c.deref-in-And.result.now) c.in_ok-op-in-And.ensures c.in_ok-first-in-And.ensures.drawn
    c.in_ok-first-in-And.ensures.number c.in_ok-first-in-And.ensures.fits in
    let costs = ap cost_of c.in-And.is in
    let left_cost = ap cost_of c.deref-in-And.ensures in
    let right_cost = ap cost_of c.deref-in-And-2.ensures in
    let room = room-placed g w old (drawing_of c.net-in-And.new.self) c.in_ok-first-in-And.first.0 _ (cost_of c.deref-in-And.result.now)
    (cost_of c.deref-in-And-2.result.now) (cost_of c.args.formula.now) c.requires.sound first (omega arith) c.requires.room in
    (omega arith, (c.requires.words, (next.0, (next.1, room))))

pub lower-requires-in-Or-2 : goal.lower-requires-in-Or-2
lower-requires-in-Or-2 t c =
    let g = c.args.graph.now in
    let w = c.args.words.now in
    let old = drawing_of c.args.circuit.now in
    let ready = subst (FormulaReady g w old) c.in-Or.is c.requires.ready in
    let right = subst (FormulaReady g w old) (sym c.deref-in-Or-2.ensures) ready.1 in
    let next = second-ready g w old (drawing_of c.lower-in-Or.new.circuit) (drawing_of c.net-in-Or.new.self) c.deref-in-Or.result.now c.deref-in-Or-2.result.now
    c.in_ok-op-in-Or.op c.in_ok-first-in-Or.first c.requires.sound c.in_ok-op-in-Or.ensures c.in_ok-first-in-Or.ensures.drawn
    c.in_ok-first-in-Or.ensures.number c.in_ok-first-in-Or.ensures.fits right in
    let whole = ap weight c.in-Or.is in
    let part = ap weight c.deref-in-Or-2.ensures in
    let first = places-lowered g w old (drawing_of c.lower-in-Or.new.circuit) (drawing_of c.net-in-Or.new.self) c.in_ok-op-in-Or.op
    c.in_ok-first-in-Or.first.0 _ (cost_of c.deref-in-Or.result.now) c.in_ok-op-in-Or.ensures c.in_ok-first-in-Or.ensures.drawn
    c.in_ok-first-in-Or.ensures.number c.in_ok-first-in-Or.ensures.fits in
    let costs = ap cost_of c.in-Or.is in
    let left_cost = ap cost_of c.deref-in-Or.ensures in
    let right_cost = ap cost_of c.deref-in-Or-2.ensures in
    let room = room-placed g w old (drawing_of c.net-in-Or.new.self) c.in_ok-first-in-Or.first.0 _ (cost_of c.deref-in-Or.result.now)
    (cost_of c.deref-in-Or-2.result.now) (cost_of c.args.formula.now) c.requires.sound first (omega arith) c.requires.room in
    (omega arith, (c.requires.words, (next.0, (next.1, room))))

pub any_of-requires-clause-ready : goal.any_of-requires-clause-ready
any_of-requires-clause-ready t c =
    let ready = subst (FormulaReady c.args.graph.now c.args.words.now (drawing_of c.args.circuit.now)) c.in-AnyOf.is c.requires.ready in
    subst (λ (xs : List WireId). All (λ (u : WireId). Placed c.args.circuit.now.wires.items u.0) xs) (sym c.deref-in-AnyOf.ensures.value) ready

pub returns-in-Const : goal.returns-in-Const
returns-in-Const t c =
    let g = c.args.graph.now in
    let w = c.args.words.now in
    let old = drawing_of c.args.circuit.now in
    let lowered = lowers-same g w _ _ _ _ _ c.in-Const.is (lowers-const g w old c.in-Const.value c.requires.sound) in
    subst (λ op. Lowers g w old old op (form_sense g c.args.formula.now) (cost_of c.args.formula.now)) (sym (ap Copy c.constant.ensures)) lowered

pub returns-in-Boot : goal.returns-in-Boot
returns-in-Boot t c =
    lowers-same c.args.graph.now c.args.words.now _ _ _ _ _ c.in-Boot.is
    (lowers-boot c.args.graph.now c.args.words.now (drawing_of c.args.circuit.now) c.requires.sound)

pub returns-in-Input : goal.returns-in-Input
returns-in-Input t c =
    let g = c.args.graph.now in
    let w = c.args.words.now in
    let old = drawing_of c.args.circuit.now in
    let lowered = lowers-same g w _ _ _ _ _ c.in-Input.is (lowers-input g w old c.in-Input.signal c.requires.sound) in
    subst (λ op. Lowers g w old old op (form_sense g c.args.formula.now) (cost_of c.args.formula.now)) (sym (ap Copy c.input.ensures)) lowered

pub returns-in-Wire : goal.returns-in-Wire
returns-in-Wire t c =
    let g = c.args.graph.now in
    let w = c.args.words.now in
    let old = drawing_of c.args.circuit.now in
    let there = ap (λ ws. slice_index_or ws c.in-Wire.wire.0 None) (sym c.deref.ensures.value) ∙ c.entry.ensures in
    lowers-same g w _ _ _ _ _ c.in-Wire.is (lowers-wire g w old c.in-Wire.wire c.entry.result c.requires.sound there)

pub returns-in-Selected : goal.returns-in-Selected
returns-in-Selected t c =
    let g = c.args.graph.now in
    let w = c.args.words.now in
    let old = drawing_of c.args.circuit.now in
    let ready = subst (FormulaReady g w old) c.in-Selected.is c.requires.ready in
    let is = ap Copy (c.source.ensures ∙ ap (source_net old) c.selected_source.ensures) in
    let lowered = lowers-same g w _ _ _ _ _ c.in-Selected.is (lowers-selected g w old c.in-Selected.path c.requires.words c.requires.sound ready) in
    subst (λ op. Lowers g w old old op (form_sense g c.args.formula.now) (cost_of c.args.formula.now)) (sym is) lowered

pub returns-in_ok-op-in-Upto : goal.returns-in_ok-op-in-Upto
returns-in_ok-op-in-Upto t c =
    let g = c.args.graph.now in
    let w = c.args.words.now in
    let old = drawing_of c.args.circuit.now in
    let ready = subst (FormulaReady g w old) c.in-Upto.is c.requires.ready in
    lowers-same g w _ _ _ _ _ c.in-Upto.is (lowers-upto g w old (drawing_of c.ends_op.new.circuit) c.in_ok-op-in-Upto.op c.in-Upto.instance c.in-Upto.code
    c.requires.words ready.0 c.in_ok-op-in-Upto.ensures)

pub returns-in-Kept : goal.returns-in-Kept
returns-in-Kept t c =
    let g = c.args.graph.now in
    let w = c.args.words.now in
    let old = drawing_of c.args.circuit.now in
    let ready = subst (FormulaReady g w old) c.in-Kept.is c.requires.ready in
    let is = c.index.ensures ∙ get_or_default w.kept.items c.in-Kept.instance.0 c.index.result.now (Const false)
    (omega (arith, c.requires.words.one_per_instance.0, ready.0)) in
    let lowered = lowers-same g w _ _ _ _ _ c.in-Kept.is (lowers-kept g w old c.in-Kept.instance c.index.result.now c.requires.words c.requires.sound
    ready.0 ready.1 is) in
    subst (λ op. Lowers g w old old op (form_sense g c.args.formula.now) (cost_of c.args.formula.now)) (sym (ap Copy c.source-in-Kept.ensures)) lowered

pub returns-in-Held : goal.returns-in-Held
returns-in-Held t c =
    let g = c.args.graph.now in
    let w = c.args.words.now in
    let old = drawing_of c.args.circuit.now in
    let ready = subst (FormulaReady g w old) c.in-Held.is c.requires.ready in
    let is = c.index-in-Held.ensures ∙ get_or_default w.held.items c.in-Held.instance.0 c.index-in-Held.result.now (Const false)
    (omega (arith, c.requires.words.one_per_instance.1, ready.0)) in
    let lowered = lowers-same g w _ _ _ _ _ c.in-Held.is (lowers-held g w old c.in-Held.instance c.index-in-Held.result.now c.requires.words c.requires.sound
    ready.0 ready.1 is) in
    subst (λ op. Lowers g w old old op (form_sense g c.args.formula.now) (cost_of c.args.formula.now)) (sym (ap Copy c.source-in-Held.ensures)) lowered

pub returns-in_ok-net-in-Not : goal.returns-in_ok-net-in-Not
returns-in_ok-net-in-Not t c =
    let g = c.args.graph.now in
    let a = c.deref-in-Not.result.now in
    let form = ap (formula_of (instances_of g) (names_of g)) c.in-Not.is
    ∙ ap (λ x. Negation (formula_of (instances_of g) (names_of g) x)) (sym c.deref-in-Not.ensures) in
    let cost = ap cost_of c.in-Not.is ∙ ap (λ x. cost_of x + 1) (sym c.deref-in-Not.ensures) in
    not-lowered g c.args.words.now (drawing_of c.args.circuit.now) (drawing_of c.lower.new.circuit) (drawing_of c.net.new.self) c.args.formula.now a
    c.in_ok-op-in-Not.op c.in_ok-net-in-Not.net form cost c.in_ok-op-in-Not.ensures c.in_ok-net-in-Not.ensures.drawn c.in_ok-net-in-Not.ensures.number
    c.in_ok-net-in-Not.ensures.fits

pub returns-in_ok-second-in-And : goal.returns-in_ok-second-in-And
returns-in_ok-second-in-And t c =
    let g = c.args.graph.now in
    let F = formula_of (instances_of g) (names_of g) in
    let a = c.deref-in-And.result.now in
    let b = c.deref-in-And-2.result.now in
    let ea = sym c.deref-in-And.ensures in
    let eb = sym c.deref-in-And-2.ensures in
    let form = ap F c.in-And.is ∙ ap (λ x. Conjunction (F x) (F c.in-And.right.value)) ea ∙ ap (λ y. Conjunction (F a) (F y)) eb in
    let cost = ap cost_of c.in-And.is ∙ ap (λ x. cost_of x + cost_of c.in-And.right.value + 1) ea ∙ ap (λ y. cost_of a + cost_of y + 1) eb in
    and-lowered g c.args.words.now (drawing_of c.args.circuit.now) (drawing_of c.lower-in-And.new.circuit) (drawing_of c.net-in-And.new.self)
    (drawing_of c.lower-in-And-2.new.circuit) (drawing_of c.net-in-And-2.new.self) c.args.formula.now a b c.in_ok-op-in-And.op c.in_ok-op-in-And-2.op
    c.in_ok-first-in-And.first c.in_ok-second-in-And.second form cost c.in_ok-op-in-And.ensures c.in_ok-first-in-And.ensures.drawn
    c.in_ok-first-in-And.ensures.number c.in_ok-first-in-And.ensures.fits c.in_ok-op-in-And-2.ensures c.in_ok-second-in-And.ensures.drawn
    c.in_ok-second-in-And.ensures.number c.in_ok-second-in-And.ensures.fits

pub returns-in_ok-second-in-Or : goal.returns-in_ok-second-in-Or
returns-in_ok-second-in-Or t c =
    let g = c.args.graph.now in
    let F = formula_of (instances_of g) (names_of g) in
    let a = c.deref-in-Or.result.now in
    let b = c.deref-in-Or-2.result.now in
    let ea = sym c.deref-in-Or.ensures in
    let eb = sym c.deref-in-Or-2.ensures in
    let form = ap F c.in-Or.is ∙ ap (λ x. Disjunction (F x) (F c.in-Or.right.value)) ea ∙ ap (λ y. Disjunction (F a) (F y)) eb in
    let cost = ap cost_of c.in-Or.is ∙ ap (λ x. cost_of x + cost_of c.in-Or.right.value + 1) ea ∙ ap (λ y. cost_of a + cost_of y + 1) eb in
    or-lowered g c.args.words.now (drawing_of c.args.circuit.now) (drawing_of c.lower-in-Or.new.circuit) (drawing_of c.net-in-Or.new.self)
    (drawing_of c.lower-in-Or-2.new.circuit) (drawing_of c.net-in-Or-2.new.self) c.args.formula.now a b c.in_ok-op-in-Or.op c.in_ok-op-in-Or-2.op
    c.in_ok-first-in-Or.first c.in_ok-second-in-Or.second form cost c.in_ok-op-in-Or.ensures c.in_ok-first-in-Or.ensures.drawn
    c.in_ok-first-in-Or.ensures.number c.in_ok-first-in-Or.ensures.fits c.in_ok-op-in-Or-2.ensures c.in_ok-second-in-Or.ensures.drawn
    c.in_ok-second-in-Or.ensures.number c.in_ok-second-in-Or.ensures.fits

pub returns-in_ok-op-in-AnyOf : goal.returns-in_ok-op-in-AnyOf
returns-in_ok-op-in-AnyOf t c =
    let g = c.args.graph.now in
    let w = c.args.words.now in
    let old = drawing_of c.args.circuit.now in
    let new = drawing_of c.any_of.new.circuit in
    let list = c.in-AnyOf.wires.items in
    let lowered = subst (λ xs. Lowers g w old new c.in_ok-op-in-AnyOf.op (any_sense g xs) (any_cost (length xs))) c.deref-in-AnyOf.ensures.value
    c.in_ok-op-in-AnyOf.ensures in
    let form = ap (formula_of (instances_of g) (names_of g)) c.in-AnyOf.is in
    subst (λ k. Lowers g w old new c.in_ok-op-in-AnyOf.op (form_sense g c.args.formula.now) k) (sym (ap cost_of c.in-AnyOf.is))
    (lowers-any g w old new c.in_ok-op-in-AnyOf.op c.args.formula.now list (any_cost (length list)) form lowered)

pub ends_op-requires-clause-room : goal.ends_op-requires-clause-room
ends_op-requires-clause-room t c = let room = c.requires.room in omega arith

pub any_of-requires-clause-room : goal.any_of-requires-clause-room
any_of-requires-clause-room t c =
    let cost = ap cost_of c.in-AnyOf.is in
    let same = ap (λ xs. any_cost (length xs)) c.deref-in-AnyOf.ensures.value in
    let room = c.requires.room in
    omega arith
