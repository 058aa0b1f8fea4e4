use Rattle.net_ir.specs.Netlists.{net_count}
use Rattle.net_ir.specs.Runs.{netlist_of}
use Rattle.net_opt.specs.Optimized.{Optimizes}
use Rattle.net_opt.proofs.optimizing.optimize.Given as goal

abbrev pub invariant-rounds : goal.invariant-rounds
invariant-rounds l = Optimizes (netlist_of l.net) (netlist_of l.best)

abbrev pub decreases-rounds : goal.decreases-rounds
decreases-rounds l = net_count (netlist_of l.best)
