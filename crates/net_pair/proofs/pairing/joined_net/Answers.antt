use Rattle.std.proofs.Common.{◌≡◌, subst, sym}
use Rattle.net_ir.specs.Netlists.{IsNet, Netlist}
use Rattle.net_ir.specs.Runs.{netlist_of}
use Rattle.net_pair.specs.Layout.{pair_net}
use Rattle.net_pair.proofs.PairNets.{pair-is_net}
use Rattle.net_pair.proofs.pairing.joined_net.Goals as goal

pub invariant_of-result : goal.invariant_of-result
invariant_of-result c =
    let a = netlist_of c.args.left.now in
    let b = netlist_of c.args.right.now in
    let whole = pair-is_net a b c.args.left.now.is_net c.args.right.now.is_net c.requires.inputs c.requires.outputs c.requires.few in
    let P = pair_net a b in
    let made : Netlist = record {
      name = c.args.names.name;
      inputs = c.args.names.inputs.items;
      outputs = c.args.names.outputs.items;
      paused = c.different_net-paused.result.0;
      latches = c.args.parts.latches.items;
      gates = c.args.parts.gates.items;
    } in
    let same : P ≡ made = λ i. record {
      name = sym c.requires.name i;
      inputs = sym c.requires.own_inputs i;
      outputs = sym c.requires.own_outputs i;
      paused = sym c.different_net-paused.ensures i;
      latches = sym c.requires.latches i;
      gates = sym c.requires.gates i;
    } in
    record { is_net = subst IsNet same whole }
