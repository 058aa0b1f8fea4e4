use Rattle.std.proofs.Common.{◌≡◌, ℕ, ◌+◌, ◌-◌, ◌<◌, ◌≤◌, length, drop, slice_index_or, Option, Some, None, ap, sym, ◌∙◌, subst, arith}
use Rattle.std.specs.List.{prefix_len}
use Rattle.std.proofs.lemmas.List.{get_or_default}
use Rattle.base_types.specs.declared.indices.NetId.{NetId}
use Rattle.base_types.specs.declared.indices.WireId.{WireId}
use Rattle.grc_graph.specs.declared.graph.Graph.{Graph}
use Rattle.grc_formulas.specs.declared.table.Words.{Words}
use Rattle.grc_formulas.specs.WordLaws.{AreWordsOf, is_end_upto, first_end, ends_upto}
use Rattle.net_ir.specs.declared.netlist.Op.{Op}
use Rattle.net_ir.specs.declared.netlist.Op.TheVariants.{Const, Copy}
use Rattle.net_gen.specs.Drawings.{Drawing, drawing_of, Placed}
use Rattle.net_gen.specs.Growing.{Lowers}
use Rattle.net_gen.specs.Readiness.{EndsReady}
use Rattle.net_gen.specs.Senses.{run_sense}
use Rattle.net_gen.proofs.EndRuns.{RunMade, run-step, run-some, run-empty}
use Rattle.net_gen.proofs.Rooms.{next-small, room-later}
use Rattle.net_gen.proofs.formulas.ends_op.Goals as goal

-- the first end and the number of ends that the function read are those of the table
first-is : (g : Graph) (w : Words) (i : ℕ) (v : WireId) → AreWordsOf g w → i < length g.instances.list.items → v ≡ slice_index_or w.ends.items i v
    → v.0 ≡ first_end w i
first-is g w i v a h e =
    let all = a.one_per_instance.2 in
    ap (λ (u : WireId). u.0) (e ∙ get_or_default w.ends.items i v (record { 0 = 0 }) (omega (arith, all)))

placed-before : (g : Graph) (w : Words) (old now : Drawing) (so_far : Option NetId) (i k v first count : ℕ) → EndsReady g w old i k
    → RunMade g w old now so_far first (v - first) → first ≡ first_end w i → count ≡ ends_upto g w i k → first ≤ v → v < first + count → Placed now.wires v
placed-before g w old now so_far i k v first count ready m f n low high =
    let p = ready v (omega arith) (omega arith) in
    (p.0, ap (λ ws. slice_index_or ws v None) m.grew.wires ∙ p.1)

ends-step : (g : Graph) (w : Words) (old now new : Drawing) (so_far : Option NetId) (i k v first count : ℕ) (n : NetId) → first ≡ first_end w i
    → count ≡ ends_upto g w i k → RunMade g w old now so_far first (v - first) → first ≤ v → v < first + count
    → (RunMade g w old now so_far (first_end w i) (v - first_end w i) → first_end w i ≤ v → v < first_end w i + ends_upto g w i k
    → RunMade g w old new (Some n) (first_end w i) (v + 1 - first_end w i))
    → RunMade g w old new (Some n) first (v + 1 - first)
ends-step g w old now new so_far i k v first count n f e m low high step =
    let begun = subst (λ x. RunMade g w old now so_far x (v - x)) f m in
    subst (λ x. RunMade g w old new (Some n) x (v + 1 - x)) (sym f) (step begun (omega arith) (omega arith))

ends-made : (g : Graph) (w : Words) (old now : Drawing) (so_far : Option NetId) (i k v first count : ℕ) → first ≡ first_end w i
    → count ≡ ends_upto g w i k → RunMade g w old now so_far first (v - first) → first ≤ v → v ≤ first + count → first + count ≤ v
    → RunMade g w old now so_far (first_end w i) (ends_upto g w i k)
ends-made g w old now so_far i k v first count f e m low high done =
    let whole : v - first ≡ ends_upto g w i k = omega arith in
    subst (λ n. RunMade g w old now so_far (first_end w i) n) whole (subst (λ x. RunMade g w old now so_far x (v - first)) f m)

pub run-requires-clause-wire : goal.run-requires-clause-wire
run-requires-clause-wire c =
    let g = c.args.graph.now in
    let w = c.args.words.now in
    let i = c.args.instance.0 in
    let f = first-is g w i c.index.result.now c.requires.words c.requires.instance c.index.ensures in
    let n : c.ends_from-count.result ≡ ends_upto g w i c.args.code =
    c.ends_from-count.ensures.count ∙ ap (λ ws. prefix_len (is_end_upto i c.args.code) (drop c.index.result.now.0 ws)) c.wires.ensures
    ∙ ap (λ x. prefix_len (is_end_upto i c.args.code) (drop x g.wires.items)) f in
    placed-before g w (drawing_of c.args.circuit.now) (drawing_of c.loop-wire.circuit) c.loop-wire.so_far i c.args.code c.loop-wire.wire c.index.result.now.0
    c.ends_from-count.result c.requires.ready c.loop-wire.invariant f n c.loop-wire.auto.wire c.loop-wire-test.true

pub loop-wire-preserved : goal.loop-wire-preserved
loop-wire-preserved c =
    let g = c.args.graph.now in
    let w = c.args.words.now in
    let i = c.args.instance.0 in
    let old = drawing_of c.args.circuit.now in
    let now = drawing_of c.loop-wire.circuit in
    let v = c.loop-wire.wire in
    let m = c.loop-wire.invariant in
    let f = first-is g w i c.index.result.now c.requires.words c.requires.instance c.index.ensures in
    let n : c.ends_from-count.result ≡ ends_upto g w i c.args.code =
    c.ends_from-count.ensures.count ∙ ap (λ ws. prefix_len (is_end_upto i c.args.code) (drop c.index.result.now.0 ws)) c.wires.ensures
    ∙ ap (λ x. prefix_len (is_end_upto i c.args.code) (drop x g.wires.items)) f in
    let placed = placed-before g w old now c.loop-wire.so_far i c.args.code v c.index.result.now.0 c.ends_from-count.result c.requires.ready m f n
    c.loop-wire.auto.wire c.loop-wire-test.true in
    let many = ap length c.wires.ensures in
    let here : v < length now.ends = omega (arith, m.grew.sound.ends_all, c.ends_from-count.ensures.within, many) in
    ends-step g w old now (drawing_of c.run.new.self) c.loop-wire.so_far i c.args.code v c.index.result.now.0 c.ends_from-count.result c.in_ok-net.net f n m
    c.loop-wire.auto.wire c.loop-wire-test.true (λ begun low high.
    run-step g w old now (drawing_of c.run.new.self) c.loop-wire.so_far i c.args.code v c.in_ok-net.net begun low high here placed
    c.in_ok-net.ensures.drawn c.in_ok-net.ensures.number c.in_ok-net.ensures.fits)

pub returns-in-Some : goal.returns-in-Some
returns-in-Some c =
    let g = c.args.graph.now in
    let w = c.args.words.now in
    let i = c.args.instance.0 in
    let f = first-is g w i c.index.result.now c.requires.words c.requires.instance c.index.ensures in
    let n : c.ends_from-count.result ≡ ends_upto g w i c.args.code =
    c.ends_from-count.ensures.count ∙ ap (λ ws. prefix_len (is_end_upto i c.args.code) (drop c.index.result.now.0 ws)) c.wires.ensures
    ∙ ap (λ x. prefix_len (is_end_upto i c.args.code) (drop x g.wires.items)) f in
    let made = ends-made g w (drawing_of c.args.circuit.now) (drawing_of c.loop-wire.circuit) c.loop-wire.so_far i c.args.code c.loop-wire.wire
    c.index.result.now.0 c.ends_from-count.result f n c.loop-wire.invariant c.loop-wire.auto.wire (omega arith) c.loop-wire-test.false in
    run-some g w (drawing_of c.args.circuit.now) (drawing_of c.loop-wire.circuit) c.loop-wire.so_far c.in-Some.net _ _ made c.in-Some.is

pub returns-in-None : goal.returns-in-None
returns-in-None c =
    let g = c.args.graph.now in
    let w = c.args.words.now in
    let i = c.args.instance.0 in
    let f = first-is g w i c.index.result.now c.requires.words c.requires.instance c.index.ensures in
    let n : c.ends_from-count.result ≡ ends_upto g w i c.args.code =
    c.ends_from-count.ensures.count ∙ ap (λ ws. prefix_len (is_end_upto i c.args.code) (drop c.index.result.now.0 ws)) c.wires.ensures
    ∙ ap (λ x. prefix_len (is_end_upto i c.args.code) (drop x g.wires.items)) f in
    let made = ends-made g w (drawing_of c.args.circuit.now) (drawing_of c.loop-wire.circuit) c.loop-wire.so_far i c.args.code c.loop-wire.wire
    c.index.result.now.0 c.ends_from-count.result f n c.loop-wire.invariant c.loop-wire.auto.wire (omega arith) c.loop-wire-test.false in
    run-empty g w (drawing_of c.args.circuit.now) (drawing_of c.loop-wire.circuit) c.loop-wire.so_far _ _ made c.in-None.is

pub run-requires-clause-room : goal.run-requires-clause-room
run-requires-clause-room c =
    let m = c.loop-wire.invariant in
    next-small (drawing_of c.loop-wire.circuit) 0 (room-later c.args.graph.now c.args.words.now (drawing_of c.args.circuit.now)
    (drawing_of c.loop-wire.circuit) 0 0 c.requires.sound m.grew.sound (omega (arith, m.within)) c.requires.room)
