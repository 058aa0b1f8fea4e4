use Rattle.std.proofs.Common.{◌≡◌, ◌∙◌, map}
use Rattle.net_expressions.specs.Views.{expr_of}
use Rattle.run_steps.specs.Plans.{Adds, AddsTerm}
use Rattle.run_steps.specs.Expressions.{expr_value, expr_step}
use Rattle.run_steps.proofs.ExprValues.{value-is}
use Rattle.run_steps.proofs.Makings.{adds-is, adds-behind}
use Rattle.run_steps.proofs.Pushes.{on-ok}
use Rattle.run_steps.proofs.expressions.push_expr.Goals as goal

pub returns-clause-tables : goal.returns-clause-tables
returns-clause-tables c =
    on-ok c.push_term.result (AddsTerm c.slot_of.result c.in_ok-term.term c.expr_term.new.plan c.push_term.new.self)
    (c.push_term.new.self.tables ≡ c.args.plan.now.tables) (λ adds. adds.tables ∙ c.in_ok-term.ensures.keeps.tables) c.push_term.ensures

pub returns-clause-adds : goal.returns-clause-adds
returns-clause-adds c =
    let keys = map (λ k. k.now) c.args.slots.now.keys in
    let value = c.args.value.now in
    let step = expr_step keys c.args.target.now (expr_of value) in
    let old = c.args.plan.now in
    let mid = c.expr_term.new.plan in
    let new = c.push_term.new.self in
    on-ok c.push_term.result (AddsTerm c.slot_of.result c.in_ok-term.term mid new) (Adds step old new)
    (λ adds. adds-behind step old mid new c.in_ok-term.ensures.keeps
    (adds-is (record { output = c.slot_of.result; value = expr_value keys value }) step mid new c.slot_of.ensures (value-is keys value)
    (adds.adds (expr_value keys value) c.in_ok-term.ensures.says))) c.push_term.ensures
