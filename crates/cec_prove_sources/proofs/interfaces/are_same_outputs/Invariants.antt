use Rattle.std.proofs.Common.{◌≡◌, drop, map}
use Rattle.base_types.specs.Names.{is_same_name}
use Rattle.net_ir.specs.declared.netlist.NetOut.{NetOut}
use Rattle.std.specs.Cmp.Lexicographic.{pointwise}
use Rattle.cec_prove_sources.proofs.interfaces.are_same_outputs.Given as goal

abbrev pub invariant-loop-k : goal.invariant-loop-k
invariant-loop-k l =
    pointwise is_same_name (map (λ (o : NetOut). o.name) (drop l.k l.left)) (map (λ (o : NetOut). o.name) (drop l.k l.right))
    ≡ pointwise is_same_name (map (λ (o : NetOut). o.name) l.left) (map (λ (o : NetOut). o.name) l.right)
