use Rattle.net_ir.specs.Runs.{netlist_of}
use Rattle.net_relations.specs.Implications.{AreStrippedTo}
use Rattle.net_relations.proofs.stripping.stripped_gates.Given as goal

abbrev pub invariant-loop-gate : goal.invariant-loop-gate
invariant-loop-gate l = AreStrippedTo (netlist_of l.net) l.known l.gate-index l.gates.items
