use Rattle.std.proofs.Common.{◌≡◌, ℕ, ◌<◌, ◌≤◌, length, slice_index_or, drop, sym, ap, ◌∙◌, arith}
use Rattle.std.specs.List.{prefix_len}
use Rattle.std.proofs.lemmas.List.{get_or_default}
use Rattle.base_types.specs.declared.indices.WireId.{WireId}
use Rattle.grc_graph.specs.declared.graph.Graph.{Graph}
use Rattle.grc_graph.specs.declared.wires.Wire.{Wire}
use Rattle.grc_graph.specs.declared.wires.Wire.TheVariants as wires
use Rattle.grc_formulas.specs.declared.table.Words.{Words}
use Rattle.grc_formulas.specs.WordLaws.{AreWordsOf, is_end_upto, first_end, any_from}
use Rattle.grc_evaluate.specs.Evaluations.{value_at}
use Rattle.grc_evaluate.proofs.Ends.{passed-more, passed-all, passed-true}
use Rattle.grc_evaluate.proofs.formulas.ends_by.Goals as goal

-- the first end that the function read is that of the table
first-is : (g : Graph) (w : Words) (i : ℕ) (v : WireId) → AreWordsOf g w → i < length g.instances.list.items → v ≡ slice_index_or w.ends.items i v
    → v.0 ≡ first_end w i
first-is g w i v a h e =
    ap (λ (u : WireId). u.0) (e ∙ get_or_default w.ends.items i v (record { 0 = 0 }) (omega (arith, a.one_per_instance.2)))

pub returns-then-not-is_end_upto : goal.returns-then-not-is_end_upto
returns-then-not-is_end_upto c =
    let g = c.args.graph.now in
    let p = is_end_upto c.args.instance.0 c.args.code in
    let f = value_at c.args.wires.now in
    let first = first-is g c.args.words.now c.args.instance.0 c.index.result.now c.requires.words c.requires.instance c.index.ensures in
    let x = c.index-in-loop-wire.result.now in
    let stop = ap p (sym c.index-in-loop-wire.ensures) ∙ sym c.is_end_upto.ensures ∙ c.if-not-is_end_upto.true in
    let low : c.loop-wire.wire ≤ length g.wires.items = omega (arith, c.loop-wire-test.true, c.len-wire-end.ensures, g.wires.ok.0) in
    sym (ap (λ n. any_from f n (prefix_len p (drop n g.wires.items))) (sym first)
    ∙ passed-all p f g.wires.items c.index.result.now.0 c.loop-wire.wire x c.loop-wire.invariant low (λ h. stop))

pub returns-then-wires-wire : goal.returns-then-wires-wire
returns-then-wires-wire c =
    let g = c.args.graph.now in
    let p = is_end_upto c.args.instance.0 c.args.code in
    let f = value_at c.args.wires.now in
    let first = first-is g c.args.words.now c.args.instance.0 c.index.result.now c.requires.words c.requires.instance c.index.ensures in
    let x = c.index-in-loop-wire.result.now in
    let pass = ap p (sym c.index-in-loop-wire.ensures) ∙ sym c.is_end_upto.ensures ∙ c.if-not-is_end_upto.false in
    let low : c.loop-wire.wire < length g.wires.items = omega (arith, c.loop-wire-test.true, c.len-wire-end.ensures, g.wires.ok.0) in
    sym (ap (λ n. any_from f n (prefix_len p (drop n g.wires.items))) (sym first)
    ∙ passed-true p f g.wires.items c.index.result.now.0 c.loop-wire.wire x c.loop-wire.invariant low pass c.if-wires-wire.true)

pub loop-wire-preserved : goal.loop-wire-preserved
loop-wire-preserved c =
    let g = c.args.graph.now in
    let p = is_end_upto c.args.instance.0 c.args.code in
    let x = c.index-in-loop-wire.result.now in
    let low : c.loop-wire.wire < length g.wires.items = omega (arith, c.loop-wire-test.true, c.len-wire-end.ensures, g.wires.ok.0) in
    passed-more p (value_at c.args.wires.now) g.wires.items c.index.result.now.0 c.loop-wire.wire c.loop-wire.invariant
    (λ (d : Wire). ap p (get_or_default g.wires.items c.loop-wire.wire d x low) ∙ ap p (sym c.index-in-loop-wire.ensures) ∙ sym c.is_end_upto.ensures
    ∙ c.if-not-is_end_upto.false) c.if-wires-wire.false

pub returns : goal.returns
returns c =
    let g = c.args.graph.now in
    let w = c.args.words.now in
    let p = is_end_upto c.args.instance.0 c.args.code in
    let f = value_at c.args.wires.now in
    let first = first-is g w c.args.instance.0 c.index.result.now c.requires.words c.requires.instance c.index.ensures in
    let within : first_end w c.args.instance.0 ≤ length g.wires.items =
    c.requires.words.fit.ends c.args.instance.0 (record { 0 = 0 }) (omega (arith, c.requires.words.one_per_instance.2, c.requires.instance)) in
    let end = c.loop-wire.auto.wire-end in
    let done = c.loop-wire-test.false in
    let many : c.len-wire-end.result ≡ length g.wires.items = omega (arith, c.len-wire-end.ensures, g.wires.ok.0) in
    let begun = c.loop-wire.invariant.begun in
    let all : c.loop-wire.wire ≤ length g.wires.items = omega (arith, end (omega (arith, first))) in
    sym (ap (λ n. any_from f n (prefix_len p (drop n g.wires.items))) (sym first)
    ∙ passed-all p f g.wires.items c.index.result.now.0 c.loop-wire.wire (wires.Out (record { 0 = 0 })) c.loop-wire.invariant all (λ h. absurd (omega arith)))
