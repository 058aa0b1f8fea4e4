use Rattle.std.proofs.Common.{◌≡◌, ◌∙◌, length, ap}
use Rattle.est_kernel.specs.Plain.{program_of}
use Rattle.net_ir.specs.Runs.{netlist_of}
use Rattle.sat_kernel.specs.Clauses.{plain_assumed}
use Rattle.cec_prove_sources.proofs.Exports.{optimized-outputs}
use Rattle.cec_cycles.proofs.Alarms.{alarm-decision}
use Rattle.cec_cycles.proofs.deciding.alarm_decided.Goals as goal

pub alarm_literal-alarm-requires : goal.alarm_literal-alarm-requires
alarm_literal-alarm-requires c =
    optimized-outputs (netlist_of c.args.check.now) (netlist_of c.in_ok-small.small) c.in_ok-small.ensures.optimizes ∙ c.requires.one

pub returns : goal.returns
returns c =
    let check = netlist_of c.args.check.now in
    let small = netlist_of c.in_ok-small.small in
    let one : length small.outputs ≡ 1 = optimized-outputs check small c.in_ok-small.ensures.optimizes ∙ c.requires.one in
    alarm-decision check small (program_of c.args.program.now) (plain_assumed c.deref.result.now) c.alarm_literal-alarm.result c.in_ok-decision.decision
    c.requires.formed c.requires.inputs c.in_ok-small.ensures.optimizes one (ap plain_assumed c.deref.ensures.value ∙ c.in_ok-allowed.ensures)
    c.alarm_literal-alarm.ensures c.in_ok-decision.ensures
