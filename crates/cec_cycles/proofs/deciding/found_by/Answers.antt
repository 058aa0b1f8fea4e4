use Rattle.std.proofs.Common.{subst}
use Rattle.est_kernel.specs.Plain.{program_of}
use Rattle.net_ir.specs.Runs.{netlist_of}
use Rattle.cec_cycles.specs.Alarms.{IsAlarmDecision}
use Rattle.cec_cycles.proofs.Keeping.{small-keeps}
use Rattle.cec_cycles.proofs.deciding.found_by.Goals as goal

pub returns-in_ok-net-in-Never : goal.returns-in_ok-net-in-Never
returns-in_ok-net-in-Never c =
    let p = program_of c.args.graph.now.program in
    let nets = c.args.nets.now in
    small-keeps p (netlist_of nets.net) (netlist_of nets.check) (netlist_of c.in_ok-net-in-Never.net) c.requires.built.formed c.requires.nets
    (subst (IsAlarmDecision p (netlist_of nets.check)) c.in-Never.is c.in_ok-decision.ensures) c.in_ok-net-in-Never.ensures.optimizes
