use Rattle.std.proofs.Common.{length, map, All, sym, ap, ◌∙◌, subst}
use Rattle.run_steps.specs.Records.{GateFits, gates_made, widened}
use Rattle.run_steps.proofs.GateParts.{gates-made-append, gates-made-length, front-fits, behind-fits}
use Rattle.run_steps.proofs.gate_list.GateList.make_all.Goals as goal

pub make_narrow_gates-requires : goal.make_narrow_gates-requires
make_narrow_gates-requires c =
    let slots = length c.args.values.now in
    let fits = subst (All (GateFits slots)) (sym c.self.view_is) c.requires in
    subst (All (λ n. GateFits slots (widened n))) (sym c.deref.ensures.value) (front-fits slots c.self.inside.narrow.items c.self.inside.wide.items fits)

pub make_gates-requires : goal.make_gates-requires
make_gates-requires c =
    let slots = length c.args.values.now in
    let fits = subst (All (GateFits slots)) (sym c.self.view_is) c.requires in
    let same = ap length c.make_narrow_gates.ensures ∙ gates-made-length (map widened c.deref.result.now) c.args.values.now in
    subst (λ n. All (GateFits n) c.deref-2.result.now) (sym same)
    (subst (All (GateFits slots)) (sym c.deref-2.ensures.value) (behind-fits slots c.self.inside.narrow.items c.self.inside.wide.items fits))

pub returns : goal.returns
returns c =
    let narrow = c.self.inside.narrow.items in
    let wide = c.self.inside.wide.items in
    let values = c.args.values.now in
    c.make_gates.ensures ∙ ap (λ gs. gates_made gs c.make_narrow_gates.new.values) c.deref-2.ensures.value
    ∙ ap (gates_made wide) (c.make_narrow_gates.ensures ∙ ap (λ ns. gates_made (map widened ns) values) c.deref.ensures.value)
    ∙ sym (gates-made-append (map widened narrow) wide values) ∙ ap (λ gs. gates_made gs values) c.self.view_is
