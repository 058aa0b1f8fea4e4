use Rattle.net_ir.specs.Netlists.{Netlist}
use Rattle.net_ir.specs.Runs.{netlist_of}
use Rattle.net_opt.specs.Optimized.{Replaces}
use Rattle.net_opt.proofs.optimizing.passed_net.Given as goal

abbrev pub invariant-passes : goal.invariant-passes
invariant-passes l = (given : Netlist) → Replaces given (netlist_of l.initial.best) → Replaces given (netlist_of l.best)
