use Rattle.std.proofs.Common.{sym, ◌∙◌}
use Rattle.net_ir.specs.Runs.{netlist_of}
use Rattle.cec_prove_sources.proofs.PairedNets.{optimized-outputs}
use Rattle.cec_prove_sources.proofs.device_comparisons.small_pair.Goals as goal

pub paired_net-requires-clause-outputs : goal.paired_net-requires-clause-outputs
paired_net-requires-clause-outputs c =
    optimized-outputs (netlist_of c.args.left.now) (netlist_of c.in_ok-small_left.small_left) c.in_ok-small_left.ensures.optimizes ∙ c.requires.outputs
    ∙ sym (optimized-outputs (netlist_of c.args.right.now) (netlist_of c.in_ok-small_right.small_right) c.in_ok-small_right.ensures.optimizes)
