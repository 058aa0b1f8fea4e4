use Rattle.std.proofs.Common.{refl, ◌∙◌}
use Rattle.net_ir.specs.Runs.{netlist_of}
use Rattle.net_cycles.proofs.Packed.{check-net}
use Rattle.net_cycles.proofs.packing.check_around.Goals as goal

pub invariant_of-result : goal.invariant_of-result
invariant_of-result c = record {
  is_net = check-net (netlist_of c.args.net.now) _ c.args.alarm c.args.net.now.is_net c.requires (record {
    name = c.in_ok-name.ensures ∙ c.bytes.ensures;
    inputs = c.in_ok-inputs.ensures ∙ c.deref.ensures.value;
    outputs = c.in_ok-outputs.ensures;
    paused = refl;
    latches = c.in_ok-latches.ensures ∙ c.deref-2.ensures.value;
    gates_are = refl;
  });
}

pub returns : goal.returns
returns c = record {
  name = c.in_ok-name.ensures ∙ c.bytes.ensures;
  inputs = c.in_ok-inputs.ensures ∙ c.deref.ensures.value;
  outputs = c.in_ok-outputs.ensures;
  paused = refl;
  latches = c.in_ok-latches.ensures ∙ c.deref-2.ensures.value;
  gates_are = refl;
}
