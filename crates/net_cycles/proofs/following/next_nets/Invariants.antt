use Rattle.net_cycles.specs.Bases.{NextMade}
use Rattle.net_cycles.proofs.following.next_nets.Given as goal

abbrev pub invariant-loop-formula : goal.invariant-loop-formula
invariant-loop-formula l = record { made : NextMade l.nets l.fn.gates l.gates l.made.items l.formula-index }
