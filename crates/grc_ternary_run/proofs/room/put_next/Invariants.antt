use Rattle.std.proofs.Common.{◌≡◌, length, map, take}
use Rattle.grc_graph.specs.PlainGraphs.{formula_of, instances_of, names_of}
use Rattle.grc_evaluate.specs.Evaluations.{formula_under}
use Rattle.grc_ternary_run.proofs.room.put_next.Given as goal

abbrev pub invariant-loop-leaf : goal.invariant-loop-leaf
invariant-loop-leaf l = record {
  len : length l.next.items ≡ length l.fn.next.items;
  front : take l.leaf l.next.items
      ≡ map (λ f. formula_under l.graph l.start l.wires (formula_of (instances_of l.graph) (names_of l.graph) f))
      (take l.leaf l.graph.next.items);
}
