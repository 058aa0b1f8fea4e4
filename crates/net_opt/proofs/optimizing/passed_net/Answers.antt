use Rattle.net_ir.specs.Netlists.{Netlist}
use Rattle.net_ir.specs.Runs.{netlist_of}
use Rattle.net_opt.specs.Optimized.{Replaces}
use Rattle.net_opt.proofs.optimizing.passed_net.Goals as goal

pub passes-preserved : goal.passes-preserved
passes-preserved c = λ (given : Netlist) (so_far : Replaces given (netlist_of c.args.start)).
    c.chosen-best.ensures given (c.passes.invariant given so_far)
