use Rattle.std.proofs.Common.{◌≡◌, ℕ, Bool, true, false, not, ◌&&◌, ◌||◌, List, length, slice_index_or, sym, ap, ◌∙◌, subst, arith, IsTrue, refl}
use Rattle.std.proofs.lemmas.Bool.{and_parts, ltb-true}
use Rattle.base_types.specs.declared.indices.NetId.{NetId}
use Rattle.grc_graph.specs.declared.formulas.Formula.{Formula}
use Rattle.grc_graph.specs.GraphShapes.{formula_fits}
use Rattle.grc_graph.specs.Walk.{is_initial}
use Rattle.grc_formulas.specs.Occasions.{state_of}
use Rattle.grc_formulas.specs.WordLaws.{ends_upto, first_end, selected_source}
use Rattle.net_cycles.specs.Bases.{AnySays, Lowers, form_value, source_net}
use Rattle.net_cycles.proofs.Lowering.{any-lowers, run-lowers, lowers-and, lowers-boot, lowers-input, lowers-no, lowers-not, lowers-or}
use Rattle.net_cycles.proofs.Lowering.{lowers-silent, lowers-source}
use Rattle.net_cycles.proofs.Lowering.{lowers-wire, lowers-yes, selected-fits, weight, whole-stays}
use Rattle.net_cycles.proofs.formulas.+lower.Goals as goal

boot-is : (leaves : List ℕ) (b : Bool) (bits : List Bool) → b ≡ is_initial (state_of leaves b bits)
boot-is leaves true bits = refl
boot-is leaves false bits = refl

pub lower-requires-in-And-2 : goal.lower-requires-in-And-2
lower-requires-in-And-2 t c =
    let n = c.args.nets.now in
    let F = λ (x : Formula). IsTrue (formula_fits (length n.graph.now.instances.list.items) (length n.graph.now.wires.items) x) in
    let fits = subst F c.in-And.is c.requires.fits in
    let size = ap weight c.in-And.is in
    let part = ap weight c.deref-in-And-2.ensures in (
      omega arith,
      (
        whole-stays n c.args.gates.now c.lower-in-And.new.gates c.requires.whole c.in_ok-first-in-And.ensures.grew,
        subst F (sym c.deref-in-And-2.ensures) (and_parts _ _ fits).1,
      ),
    )

pub lower-requires-in-Or-2 : goal.lower-requires-in-Or-2
lower-requires-in-Or-2 t c =
    let n = c.args.nets.now in
    let F = λ (x : Formula). IsTrue (formula_fits (length n.graph.now.instances.list.items) (length n.graph.now.wires.items) x) in
    let fits = subst F c.in-Or.is c.requires.fits in
    let size = ap weight c.in-Or.is in
    let part = ap weight c.deref-in-Or-2.ensures in (
      omega arith,
      (
        whole-stays n c.args.gates.now c.lower-in-Or.new.gates c.requires.whole c.in_ok-first-in-Or.ensures.grew,
        subst F (sym c.deref-in-Or-2.ensures) (and_parts _ _ fits).1,
      ),
    )

pub returns-then-value : goal.returns-then-value
returns-then-value t c =
    let n = c.args.nets.now in
    lowers-yes n c.args.gates.now c.args.formula.now c.requires.whole (λ o. sym c.if-value.true ∙ ap (form_value n.graph.now o) (sym c.in-Const.is))

pub returns-else-value : goal.returns-else-value
returns-else-value t c =
    let n = c.args.nets.now in
    lowers-no n c.args.gates.now c.args.formula.now c.requires.whole (λ o. sym c.if-value.false ∙ ap (form_value n.graph.now o) (sym c.in-Const.is))

pub returns-in-Boot : goal.returns-in-Boot
returns-in-Boot t c =
    let n = c.args.nets.now in
    lowers-boot n c.args.gates.now c.args.formula.now c.requires.whole (λ o. boot-is _ o.boot o.bits ∙ ap (form_value n.graph.now o) (sym c.in-Boot.is))

pub returns-then-signal-nets : goal.returns-then-signal-nets
returns-then-signal-nets t c =
    let n = c.args.nets.now in
    lowers-input n c.args.gates.now c.args.formula.now c.in-Input.signal.0 c.requires.whole c.if-signal-nets.true
    (λ o. ap (form_value n.graph.now o) (sym c.in-Input.is))

pub returns-else-signal-nets : goal.returns-else-signal-nets
returns-else-signal-nets t c =
    let n = c.args.nets.now in
    lowers-silent n c.args.gates.now c.args.formula.now c.in-Input.signal.0 c.requires.whole c.if-signal-nets.false
    (λ o. ap (form_value n.graph.now o) (sym c.in-Input.is))

pub returns-in-Wire : goal.returns-in-Wire
returns-in-Wire t c =
    let n = c.args.nets.now in
    let F = λ (x : Formula). IsTrue (formula_fits (length n.graph.now.instances.list.items) (length n.graph.now.wires.items) x) in
    let low = ltb-true c.in-Wire.wire.0 (length n.graph.now.wires.items) (subst F c.in-Wire.is c.requires.fits) in
    lowers-wire n c.args.gates.now c.args.formula.now c.in-Wire.wire.0 c.requires.whole low (λ o. ap (form_value n.graph.now o) (sym c.in-Wire.is))

pub returns-in-Selected : goal.returns-in-Selected
returns-in-Selected t c =
    let n = c.args.nets.now in
    let p = c.in-Selected.path.0 in
    let made = lowers-source n c.args.gates.now c.args.formula.now (selected_source n.words.now p) c.requires.whole
    (selected-fits n c.args.gates.now p c.requires.whole)
    (λ o k. c.requires.whole.ready.words.selected o p k.off ∙ ap (form_value n.graph.now o) (sym c.in-Selected.is)) in
    subst (λ (x : NetId). Lowers n c.args.gates.now c.args.gates.now c.args.formula.now x.0)
    (sym (c.source_net.ensures ∙ ap (source_net n.base n.wires.now n.rows.now) c.selected_source-source.ensures)) made

pub returns-in-Kept : goal.returns-in-Kept
returns-in-Kept t c =
    let n = c.args.nets.now in
    let i = c.in-Kept.instance.0 in
    let s = c.index-source.result.now in
    let F = λ (x : Formula). IsTrue (formula_fits (length n.graph.now.instances.list.items) (length n.graph.now.wires.items) x) in
    let low = ltb-true i (length n.graph.now.instances.list.items) (subst F c.in-Kept.is c.requires.fits) in
    let words = c.requires.whole.ready.words in
    let made = lowers-source n c.args.gates.now c.args.formula.now (slice_index_or n.words.now.kept.items i s) c.requires.whole
    (words.fit.kept i s (let m = words.one_per_instance.0 in omega arith))
    (λ o k. words.kept o i s k.off low ∙ ap (form_value n.graph.now o) (sym c.in-Kept.is)) in
    subst (λ (x : NetId). Lowers n c.args.gates.now c.args.gates.now c.args.formula.now x.0)
    (sym (c.source_net-in-Kept.ensures ∙ ap (source_net n.base n.wires.now n.rows.now) c.index-source.ensures)) made

pub returns-in-Held : goal.returns-in-Held
returns-in-Held t c =
    let n = c.args.nets.now in
    let i = c.in-Held.instance.0 in
    let s = c.index-source-in-Held.result.now in
    let F = λ (x : Formula). IsTrue (formula_fits (length n.graph.now.instances.list.items) (length n.graph.now.wires.items) x) in
    let low = ltb-true i (length n.graph.now.instances.list.items) (subst F c.in-Held.is c.requires.fits) in
    let words = c.requires.whole.ready.words in
    let made = lowers-source n c.args.gates.now c.args.formula.now (slice_index_or n.words.now.held.items i s) c.requires.whole
    (words.fit.held i s (let m = words.one_per_instance.1 in omega arith))
    (λ o k. words.held o i s k.off low ∙ ap (form_value n.graph.now o) (sym c.in-Held.is)) in
    subst (λ (x : NetId). Lowers n c.args.gates.now c.args.gates.now c.args.formula.now x.0)
    (sym (c.source_net-in-Held.ensures ∙ ap (source_net n.base n.wires.now n.rows.now) c.index-source-in-Held.ensures)) made

pub returns-in_ok-inverse-in-Not : goal.returns-in_ok-inverse-in-Not
returns-in_ok-inverse-in-Not t c =
    let n = c.args.nets.now in
    lowers-not n c.args.gates.now c.lower.new.gates c.push.new.self c.deref.result.now c.args.formula.now c.in_ok-net-in-Not.net
    c.in_ok-inverse-in-Not.inverse.0
    c.requires.whole c.in_ok-net-in-Not.ensures c.in_ok-inverse-in-Not.ensures.pushed c.in_ok-inverse-in-Not.ensures.number c.in_ok-inverse-in-Not.ensures.room
    (λ o. ap (λ x. not (form_value n.graph.now o x)) c.deref.ensures ∙ ap (form_value n.graph.now o) (sym c.in-Not.is))

pub returns-in_ok-both-in-And : goal.returns-in_ok-both-in-And
returns-in_ok-both-in-And t c =
    let n = c.args.nets.now in
    lowers-and n c.args.gates.now c.lower-in-And.new.gates c.lower-in-And-2.new.gates c.push-in-And.new.self c.deref-in-And.result.now
    c.deref-in-And-2.result.now c.args.formula.now c.in_ok-first-in-And.first c.in_ok-second-in-And.second c.in_ok-both-in-And.both.0 c.requires.whole
    c.in_ok-first-in-And.ensures c.in_ok-second-in-And.ensures c.in_ok-both-in-And.ensures.pushed c.in_ok-both-in-And.ensures.number
    c.in_ok-both-in-And.ensures.room
    (λ o. (λ i. form_value n.graph.now o (c.deref-in-And.ensures i) && form_value n.graph.now o (c.deref-in-And-2.ensures i))
    ∙ ap (form_value n.graph.now o) (sym c.in-And.is))

pub returns-in_ok-either-in-Or : goal.returns-in_ok-either-in-Or
returns-in_ok-either-in-Or t c =
    let n = c.args.nets.now in
    lowers-or n c.args.gates.now c.lower-in-Or.new.gates c.lower-in-Or-2.new.gates c.push-in-Or.new.self c.deref-in-Or.result.now
    c.deref-in-Or-2.result.now c.args.formula.now c.in_ok-first-in-Or.first c.in_ok-second-in-Or.second c.in_ok-either-in-Or.either.0 c.requires.whole
    c.in_ok-first-in-Or.ensures c.in_ok-second-in-Or.ensures c.in_ok-either-in-Or.ensures.pushed c.in_ok-either-in-Or.ensures.number
    c.in_ok-either-in-Or.ensures.room
    (λ o. (λ i. form_value n.graph.now o (c.deref-in-Or.ensures i) || form_value n.graph.now o (c.deref-in-Or-2.ensures i))
    ∙ ap (form_value n.graph.now o) (sym c.in-Or.is))

pub returns-in_ok-ended-in-Upto : goal.returns-in_ok-ended-in-Upto
returns-in_ok-ended-in-Upto t c =
    let n = c.args.nets.now in
    let i = c.in-Upto.instance.0 in
    let F = λ (x : Formula). IsTrue (formula_fits (length n.graph.now.instances.list.items) (length n.graph.now.wires.items) x) in
    let low = ltb-true i (length n.graph.now.instances.list.items) (subst F c.in-Upto.is c.requires.fits) in
    run-lowers n c.args.gates.now c.ends_net.new.gates c.args.formula.now (first_end n.words.now i) (ends_upto n.graph.now n.words.now i c.in-Upto.code)
    c.in_ok-ended-in-Upto.ended.0 c.in_ok-ended-in-Upto.ensures
    (λ o k. c.requires.whole.ready.words.upto o i c.in-Upto.code k.off low ∙ ap (form_value n.graph.now o) (sym c.in-Upto.is))

pub returns-in_ok-any-in-AnyOf : goal.returns-in_ok-any-in-AnyOf
returns-in_ok-any-in-AnyOf t c =
    let n = c.args.nets.now in
    let list = c.in-AnyOf.list.items in
    let said = subst (λ l. AnySays n c.args.gates.now c.any_net.new.gates l c.in_ok-any-in-AnyOf.any.0) c.as_slice.ensures.value c.in_ok-any-in-AnyOf.ensures in
    any-lowers n c.args.gates.now c.any_net.new.gates c.args.formula.now list c.in_ok-any-in-AnyOf.any.0 said
    (λ o. ap (form_value n.graph.now o) (sym c.in-AnyOf.is))
