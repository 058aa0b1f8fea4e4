use Rattle.std.proofs.Common.{◌≡◌, map, take}
use Rattle.net_ir.specs.declared.netlist.NetOut.{NetOut}
use Rattle.net_opt.proofs.silencing.output_nets.Given as goal

abbrev pub invariant-loop-output : goal.invariant-loop-output
invariant-loop-output l = l.nets.items ≡ map (λ (o : NetOut). o.net) (take l.output-index l.outputs)
