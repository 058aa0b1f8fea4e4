use Rattle.std.proofs.Common.{◌≡◌, ◌-◌, ◌++◌, length, map, take, drop, All, sym, ap, ◌∙◌, subst, arith}
use Rattle.std.specs.Prelude.{slice_range}
use Rattle.std.proofs.lemmas.List.{take_all, length-drop}
use Rattle.std.proofs.lemmas.List.Elements.{All-take, All-drop}
use Rattle.run_steps.specs.Records.{GateFits, gates_made, widened}
use Rattle.run_steps.proofs.GateParts.{gates-made-append, gates-made-length, front-fits, behind-fits, part-front, part-behind, part-across}
use Rattle.run_steps.proofs.gate_list.GateList.make_part.Goals as goal

pub make_narrow_gates-requires : goal.make_narrow_gates-requires
make_narrow_gates-requires c =
    let slots = length c.args.values.now in
    let fits = subst (All (GateFits slots)) (sym c.self.view_is) c.requires.fits in
    let front = front-fits slots c.self.inside.narrow.items c.self.inside.wide.items fits in
    All-take (λ n. GateFits slots (widened n)) (c.args.to - c.args.from) _ (All-drop (λ n. GateFits slots (widened n)) c.args.from _
    (subst (All (λ n. GateFits slots (widened n))) (sym c.deref.ensures.value) front))

pub make_gates-requires : goal.make_gates-requires
make_gates-requires c =
    let slots = length c.args.values.now in
    let fits = subst (All (GateFits slots)) (sym c.self.view_is) c.requires.fits in
    let behind = behind-fits slots c.self.inside.narrow.items c.self.inside.wide.items fits in
    let many = c.len-narrow.result in
    All-take (GateFits slots) (c.args.to - many - (c.args.from - many)) _ (All-drop (GateFits slots) (c.args.from - many) _
    (subst (All (GateFits slots)) (sym c.deref-then-narrow-from.ensures.value) behind))

pub make_narrow_gates-requires-else-narrow-from : goal.make_narrow_gates-requires-else-narrow-from
make_narrow_gates-requires-else-narrow-from c =
    let slots = length c.args.values.now in
    let fits = subst (All (GateFits slots)) (sym c.self.view_is) c.requires.fits in
    let front = front-fits slots c.self.inside.narrow.items c.self.inside.wide.items fits in
    All-take (λ n. GateFits slots (widened n)) (length c.deref-else-narrow-from.result.now - c.args.from) _
    (All-drop (λ n. GateFits slots (widened n)) c.args.from _
    (subst (All (λ n. GateFits slots (widened n))) (sym c.deref-else-narrow-from.ensures.value) front))

pub make_gates-requires-else-narrow-from : goal.make_gates-requires-else-narrow-from
make_gates-requires-else-narrow-from c =
    let slots = length c.args.values.now in
    let fits = subst (All (GateFits slots)) (sym c.self.view_is) c.requires.fits in
    let behind = behind-fits slots c.self.inside.narrow.items c.self.inside.wide.items fits in
    let same = ap length c.make_narrow_gates-else-narrow-from.ensures
    ∙ gates-made-length (map widened (take (length c.deref-else-narrow-from.result.now - c.args.from) (drop c.args.from c.deref-else-narrow-from.result.now)))
    c.args.values.now in
    subst (λ n. All (GateFits n) (take (c.args.to - c.len-narrow.result) c.deref-else-narrow-from-2.result.now)) (sym same)
    (All-take (GateFits slots) (c.args.to - c.len-narrow.result) _
    (subst (All (GateFits slots)) (sym c.deref-else-narrow-from-2.ensures.value) behind))

pub returns-then-to-narrow : goal.returns-then-to-narrow
returns-then-to-narrow c =
    let narrow = c.self.inside.narrow.items in
    let wide = c.self.inside.wide.items in
    let values = c.args.values.now in
    c.make_narrow_gates.ensures ∙ ap (λ ns. gates_made (map widened (slice_range ns c.args.from c.args.to)) values) c.deref.ensures.value
    ∙ ap (λ gs. gates_made gs values)
    (sym (part-front narrow wide c.args.from c.args.to c.requires.order (omega (arith, c.len-narrow.ensures, c.if-to-narrow.true))))
    ∙ ap (λ gs. gates_made (slice_range gs c.args.from c.args.to) values) c.self.view_is

pub returns-then-narrow-from : goal.returns-then-narrow-from
returns-then-narrow-from c =
    let narrow = c.self.inside.narrow.items in
    let wide = c.self.inside.wide.items in
    let values = c.args.values.now in
    let many = c.len-narrow.result in
    let is : many ≡ length narrow = omega (arith, c.len-narrow.ensures) in
    c.make_gates.ensures ∙ ap (λ gs. gates_made (slice_range gs (c.args.from - many) (c.args.to - many)) values) c.deref-then-narrow-from.ensures.value
    ∙ ap (λ n. gates_made (slice_range wide (c.args.from - n) (c.args.to - n)) values) is
    ∙ ap (λ gs. gates_made gs values) (sym (part-behind narrow wide c.args.from c.args.to c.requires.order
    (omega (arith, c.len-narrow.ensures, c.if-narrow-from.true))))
    ∙ ap (λ gs. gates_made (slice_range gs c.args.from c.args.to) values) c.self.view_is

pub returns-else-narrow-from : goal.returns-else-narrow-from
returns-else-narrow-from c =
    let narrow = c.self.inside.narrow.items in
    let wide = c.self.inside.wide.items in
    let values = c.args.values.now in
    let many = c.len-narrow.result in
    let is : many ≡ length narrow = omega (arith, c.len-narrow.ensures) in
    let rest = take_all (length c.deref-else-narrow-from.result.now - c.args.from) (drop c.args.from c.deref-else-narrow-from.result.now)
    (omega (arith, length-drop c.args.from c.deref-else-narrow-from.result.now)) in
    let made = c.make_narrow_gates-else-narrow-from.ensures ∙ ap (λ ns. gates_made (map widened ns) values) rest
    ∙ ap (λ ns. gates_made (map widened (drop c.args.from ns)) values) c.deref-else-narrow-from.ensures.value in
    c.make_gates-else-narrow-from.ensures
    ∙ ap (λ gs. gates_made (take (c.args.to - many) gs) c.make_narrow_gates-else-narrow-from.new.values) c.deref-else-narrow-from-2.ensures.value
    ∙ ap (gates_made (take (c.args.to - many) wide)) made
    ∙ sym (gates-made-append (map widened (drop c.args.from narrow)) (take (c.args.to - many) wide) values)
    ∙ ap (λ n. gates_made (map widened (drop c.args.from narrow) ++ take (c.args.to - n) wide) values) is
    ∙ ap (λ gs. gates_made gs values) (sym (part-across narrow wide c.args.from c.args.to
    (omega (arith, c.len-narrow.ensures, c.if-narrow-from.false)) (omega (arith, c.len-narrow.ensures, c.if-to-narrow.false))))
    ∙ ap (λ gs. gates_made (slice_range gs c.args.from c.args.to) values) c.self.view_is
