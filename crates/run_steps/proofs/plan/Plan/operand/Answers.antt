use Rattle.std.proofs.Common.{◌≡◌, ◌+◌, ◌≤◌, rules, refl, subst, arith}
use Rattle.run_steps.specs.Plans.{IsOperand}
use Rattle.run_steps.specs.Records.{plan_of}
use Rattle.run_steps.proofs.Pushes.{operand-is}
use Rattle.run_steps.proofs.RecordLists.{gate-more}
use Rattle.run_steps.proofs.plan.Plan.operand.Goals as goal

pub returns : goal.returns
returns c =
    let inside = c.self.inside in
    let more = gate-more inside.stretches.items inside.gates c.push.new.self c.gate_of.result c.in_ok-push.ensures.more in
    let free : c.in_ok-free.free ≡ inside.free + 1 = search rules in
    let grown : inside.slots ≤ c.max-self-inside.result = omega (arith, c.max-self-inside.ensures) in
    let room : c.in_ok-free.free ≤ c.max-self-inside.result = omega (arith, c.max-self-inside.ensures) in
    let new = plan_of (record {
      named = inside.named;
      free = c.in_ok-free.free;
      slots = c.max-self-inside.result;
      stretches = inside.stretches;
      gates = c.push.new.self;
    }) in
    subst (λ old. IsOperand c.args.term old c.unary.result new) c.self.view_is
    (operand-is (plan_of inside) new c.args.term c.unary.result c.gate_of.result refl grown more c.gate_of.ensures.output c.gate_of.ensures.left
    c.gate_of.ensures.right c.gate_of.ensures.truth c.self.invariant.named_low free room c.unary.ensures.left c.unary.ensures.right
    c.unary.ensures.value refl)
