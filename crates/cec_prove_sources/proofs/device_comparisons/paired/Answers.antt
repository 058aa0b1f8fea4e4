use Rattle.std.proofs.Common.{length, ap, map, subst}
use Rattle.std.specs.Prelude.{IfSome}
use Rattle.base_types.specs.Relations.{relation_of}
use Rattle.net_ir.specs.Runs.{netlist_of}
use Rattle.cec_prove_sources.specs.PairRuns.{IsSmallPair}
use Rattle.cec_prove_sources.proofs.PairedNets.{outputs-long, small-pair}
use Rattle.cec_prove_sources.proofs.device_comparisons.paired.Goals as goal

pub small_pair-requires-clause-inputs : goal.small_pair-requires-clause-inputs
small_pair-requires-clause-inputs c = ap length c.requires.names.inputs

pub small_pair-requires-clause-outputs : goal.small_pair-requires-clause-outputs
small_pair-requires-clause-outputs c =
    outputs-long (map relation_of c.args.relations.now) (netlist_of c.args.left.now) (netlist_of c.args.right.now) c.requires.names

pub decided-requires-clause-pair : goal.decided-requires-clause-pair
decided-requires-clause-pair c =
    let left = netlist_of c.args.left.now in
    let right = netlist_of c.args.right.now in
    small-pair left right (netlist_of c.in-Some.net)
    (subst (λ o. IfSome o (λ net. IsSmallPair left right (netlist_of net))) c.in-Some.is c.in_ok-small_pair.ensures) c.requires.names.inputs
