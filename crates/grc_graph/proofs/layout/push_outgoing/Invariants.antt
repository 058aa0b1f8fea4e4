use Rattle.std.proofs.Common.{◌≡◌, ◌++◌, map}
use Rattle.std.specs.List.{range_with_len}
use Rattle.grc_graph.specs.declared.wires.Wire.TheVariants.{Out}
use Rattle.grc_graph.proofs.layout.push_outgoing.Given as goal

abbrev pub invariant-loop-k : goal.invariant-loop-k
invariant-loop-k l = l.wires.items ≡ l.initial.wires.items ++ map (λ s. Out (record { 0 = s })) (range_with_len l.from l.k)
