use Rattle.std.proofs.Common.{◌≡◌, ◌++◌, map}
use Rattle.base_types.specs.CodeSet.{members}
use Rattle.grc_graph.specs.declared.wires.Wire.TheVariants.{End}
use Rattle.grc_graph.specs.Wires.{codes_below}
use Rattle.grc_graph.proofs.layout.push_ends.Given as goal

abbrev pub invariant-loop-code : goal.invariant-loop-code
invariant-loop-code l = l.wires.items ≡ l.initial.wires.items ++ map (λ k. End l.i k) (codes_below l.code (members l.codes))
