use Rattle.grc_ternary_gates.proofs.Deciding.{pops-on}
use Rattle.grc_ternary_gates.proofs.solver.Solver.take_up.Goals as goal

pub returns-clause-goes_on : goal.returns-clause-goes_on
returns-clause-goes_on c = λ todo u.
    c.look_at_readers-2.ensures.goes_on todo (c.look_at_readers.ensures.goes_on _
    (pops-on c.args.system.now.gates.items c.args.sources.now c.args.self.now c.pop-node.new.self c.pop-node.result todo c.pop-node.ensures u))
