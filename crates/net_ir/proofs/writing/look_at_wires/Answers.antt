use Rattle.std.proofs.Common.{◌<◌, ◌^◌, subst, All}
use Rattle.std.specs.Prelude.{IfSome}
use Rattle.net_ir.proofs.writing.look_at_wires.Goals as goal

pub returns : goal.returns
returns c = record {
  is_net = c.args.net.now.is_net;
  wires_fit = subst (All (λ g. IfSome g.wire (λ w. w.0 < 2 ^ 32))) c.deref.ensures.value c.look_at_gates.ensures;
}
