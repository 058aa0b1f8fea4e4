use Rattle.std.proofs.Common.{◌≡◌, ◌+◌, ◌++◌, [], ◌∷◌, map, take, sym, ap, ◌∙◌, subst, arith}
use Rattle.run_steps.specs.declared.term.Junction.TheVariants.{And, Or}
use Rattle.run_steps.specs.Slots.{slot_in}
use Rattle.run_steps.specs.Plans.{Compiles}
use Rattle.run_steps.specs.Expressions.{expr_value, parts_value}
use Rattle.run_steps.proofs.Compiling.{name-compiles, const-compiles, not-compiles, and-compiles, or-compiles, next-compiles, if-ok, front-more}
use Rattle.run_steps.proofs.expressions.+terms.Goals as goal

pub expr_term-returns-in-Name : goal.expr_term-returns-in-Name
expr_term-returns-in-Name t c =
    let keys = map (λ k. k.now) c.args.slots.now.keys in
    let slot = c.slot_of.ensures ∙ ap (slot_in keys) c.bytes.ensures in
    name-compiles keys c.args.value.now c.in-Name.name c.slot_of.result c.args.plan.now c.copied.result c.in-Name.is slot c.copied.ensures

pub expr_term-returns-in-Const : goal.expr_term-returns-in-Const
expr_term-returns-in-Const t c =
    let keys = map (λ k. k.now) c.args.slots.now.keys in
    const-compiles keys c.args.value.now c.in-Const.value c.args.plan.now c.constant.result c.in-Const.is c.constant.ensures

pub expr_term-returns-in-Ok : goal.expr_term-returns-in-Ok
expr_term-returns-in-Ok t c =
    let keys = map (λ k. k.now) c.args.slots.now.keys in
    let own = subst (λ e. Compiles (expr_value keys e) c.args.plan.now c.in-Ok.term c.expr_term.new.plan) c.deref.ensures c.in-Ok.ensures in
    not-compiles keys c.args.value.now c.in-Not.part c.args.plan.now c.expr_term.new.plan c.in-Ok.term c.negated.result c.in-Not.is own
    c.negated.ensures.left c.negated.ensures.right c.negated.ensures.value

pub expr_term-returns-in-And : goal.expr_term-returns-in-And
expr_term-returns-in-And t c =
    let keys = map (λ k. k.now) c.args.slots.now.keys in
    let old = c.args.plan.now in
    let new = c.joined_term.new.plan in
    if-ok c.joined_term.result (λ r. Compiles (parts_value keys And c.as_slice.result.now) old r new)
    (λ r. Compiles (expr_value keys c.args.value.now) old r new)
    (λ r own. and-compiles keys c.args.value.now c.in-And.parts old new r c.in-And.is
    (subst (λ l. Compiles (parts_value keys And l) old r new) c.as_slice.ensures.value own)) c.joined_term.ensures

pub expr_term-returns-in-Or : goal.expr_term-returns-in-Or
expr_term-returns-in-Or t c =
    let keys = map (λ k. k.now) c.args.slots.now.keys in
    let old = c.args.plan.now in
    let new = c.joined_term-in-Or.new.plan in
    if-ok c.joined_term-in-Or.result (λ r. Compiles (parts_value keys Or c.as_slice-in-Or.result.now) old r new)
    (λ r. Compiles (expr_value keys c.args.value.now) old r new)
    (λ r own. or-compiles keys c.args.value.now c.in-Or.parts old new r c.in-Or.is
    (subst (λ l. Compiles (parts_value keys Or l) old r new) c.as_slice-in-Or.ensures.value own)) c.joined_term-in-Or.ensures

pub joined_term-loop-part-preserved : goal.joined_term-loop-part-preserved
joined_term-loop-part-preserved t c =
    let keys = map (λ k. k.now) c.args.slots.now.keys in
    let parts = c.args.parts.now in
    let others = c.in-Some.others.now in
    let i = c.loop-part.part-index in
    let item = c.part-item.result in
    let is = c.in-Some.ensures.cases.0 in
    let more : take (i + 1 + 1) parts ≡ take (i + 1) parts ++ item ∷ [] =
    front-more parts others c.in-Some.first.now item i is (omega arith) ∙ ap (λ y. take (i + 1) parts ++ y ∷ []) (sym c.part-item.is) in
    subst (λ l. Compiles (parts_value keys c.args.junction l) c.args.plan.now c.in_ok-all-2.all c.joined.new.self) (sym more)
    (next-compiles keys c.args.junction (take (i + 1) parts) item c.args.plan.now c.loop-part.plan c.expr_term-in-loop-part.new.plan c.joined.new.self
    c.loop-part.all c.in_ok-next.next c.in_ok-all-2.all c.loop-part.invariant c.in_ok-next.ensures c.in_ok-all-2.ensures)
