use Rattle.std.proofs.Common.{◌+◌, ◌<◌, refl, sym, subst, arith}
use Rattle.run_steps.specs.Plans.{Planned, AddsTerm}
use Rattle.run_steps.specs.Records.{plan_of}
use Rattle.run_steps.proofs.Pushes.{gate-adds}
use Rattle.run_steps.proofs.RecordLists.{gate-more}
use Rattle.run_steps.proofs.plan.Plan.push_term.Goals as goal

pub returns : goal.returns
returns c =
    let inside = c.self.inside in
    let low = subst (λ (p : Planned). c.args.output < p.named) (sym c.self.view_is) c.requires.output in
    let more = gate-more inside.stretches.items inside.gates c.push.new.self c.gate_of.result c.in_ok-push.ensures.more in
    let new = plan_of (record { named = inside.named; free = inside.named + 1; slots = inside.slots; stretches = inside.stretches; gates = c.push.new.self }) in
    subst (λ old. AddsTerm c.args.output c.args.term old new) c.self.view_is
    (gate-adds (plan_of inside) new c.args.output c.args.term c.gate_of.result refl (omega arith) more c.gate_of.ensures.output c.gate_of.ensures.left
    c.gate_of.ensures.right c.gate_of.ensures.truth low refl)
