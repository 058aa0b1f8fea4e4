use Rattle.std.proofs.Common.{arith}
use Rattle.net_ir.specs.Runs.{netlist_of}
use Rattle.net_opt.proofs.Replacing.{optimizes-simply, optimizes-then, simplified-count}
use Rattle.net_opt.proofs.optimizing.optimize.Goals as goal

pub returns-in-None-clause-optimizes : goal.returns-in-None-clause-optimizes
returns-in-None-clause-optimizes c =
    optimizes-simply (netlist_of c.args.net.now) (netlist_of c.rounds.best) (netlist_of c.in_ok-simple.simple) c.rounds.invariant
    c.in_ok-simple.ensures.parts c.in_ok-simple.ensures.runs

pub rounds-preserved : goal.rounds-preserved
rounds-preserved c =
    let net = netlist_of c.args.net.now in
    let simple = netlist_of c.in_ok-simple.simple in
    let part = rw c.in-Some.is at c.in_ok-part.ensures.part in
    optimizes-then simple (netlist_of c.in-Some.part) part.optimizes net
    (optimizes-simply net (netlist_of c.rounds.best) simple c.rounds.invariant c.in_ok-simple.ensures.parts c.in_ok-simple.ensures.runs)

pub rounds-smaller : goal.rounds-smaller
rounds-smaller c =
    let part = rw c.in-Some.is at c.in_ok-part.ensures.part in
    omega (arith, part.smaller, simplified-count (netlist_of c.rounds.best) (netlist_of c.in_ok-simple.simple) c.in_ok-simple.ensures.parts)
