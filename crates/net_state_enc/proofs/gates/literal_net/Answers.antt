use Rattle.std.proofs.Common.{◌+◌, ◌<◌, ◌∙◌, ap, not, arith}
use Rattle.net_ir.specs.declared.netlist.Op.TheVariants.{Not}
use Rattle.net_ir.proofs.Exports.{value_in-gate_values}
use Rattle.net_state_enc.proofs.GateLaws.{says-given, says-as, says-push, literal-true, literal-false}
use Rattle.net_state_enc.proofs.gates.literal_net.Goals as goal

pub returns-then-literal-clause-says : goal.returns-then-literal-clause-says
returns-then-literal-clause-says c =
    says-as c.args.draft.now.first c.args.draft.now.gates.items (c.args.base + c.args.literal.bit) _ _
    (says-given c.args.draft.now.first c.args.draft.now.gates.items (c.args.base + c.args.literal.bit) c.requires.within)
    (λ v len. literal-true c.args.base c.args.literal v c.if-literal.true)

pub returns-in_ok-push-clause-says : goal.returns-in_ok-push-clause-says
returns-in_ok-push-clause-says c =
    let first = c.args.draft.now.first in
    let old = c.args.draft.now.gates.items in
    let net = c.args.base + c.args.literal.bit in
    let low : net < first = c.requires.within in
    says-as first c.push.new.self.gates.items c.in_ok-push.field-0.0 _ _
    (says-push first old c.push.new.self.gates.items (Not (record { 0 = net })) c.in_ok-push.field-0.0 c.in_ok-push.ensures.gates c.in_ok-push.ensures.number)
    (λ v len. ap not (value_in-gate_values v old net (omega arith)) ∙ literal-false c.args.base c.args.literal v c.if-literal.false)
