use Rattle.std.proofs.Common.{subst}
use Rattle.base_types.specs.Stops.{FaultIs}
use Rattle.net_ir.specs.Runs.{netlist_of}
use Rattle.vlog_run.specs.Runners.{module_in}
use Rattle.vlog_run.specs.Texts.{IsTextFault}
use Rattle.vlog_run.proofs.NetTexts.{net-inputs, net-outputs, runner-net}
use Rattle.vlog_run.proofs.TextFaults.{read-module, written-faultless}
use Rattle.vlog_run.proofs.language.VerilogTextsLanguage.read_back.Goals as goal

pub returns-in-Ok-clause-each_input : goal.returns-in-Ok-clause-each_input
returns-in-Ok-clause-each_input c =
    let net = netlist_of c.args.net.now in
    net-inputs net (module_in c.in-Ok.machine) (read-module net c.look_at_wires.ensures c.args.text.now (module_in c.in-Ok.machine) c.requires.means.spelled
    c.requires.means.means c.in-Ok.ensures.reads.is_read)

pub returns-in-Ok-clause-each_output : goal.returns-in-Ok-clause-each_output
returns-in-Ok-clause-each_output c =
    let net = netlist_of c.args.net.now in
    net-outputs net (module_in c.in-Ok.machine) (read-module net c.look_at_wires.ensures c.args.text.now (module_in c.in-Ok.machine) c.requires.means.spelled
    c.requires.means.means c.in-Ok.ensures.reads.is_read)

pub returns-in-Ok-clause-shows : goal.returns-in-Ok-clause-shows
returns-in-Ok-clause-shows c =
    let net = netlist_of c.args.net.now in
    runner-net net c.in-Ok.machine (read-module net c.look_at_wires.ensures c.args.text.now (module_in c.in-Ok.machine) c.requires.means.spelled
    c.requires.means.means c.in-Ok.ensures.reads.is_read) c.in-Ok.ensures.fresh

pub unreachable-requires : goal.unreachable-requires
unreachable-requires c =
    written-faultless (netlist_of c.args.net.now) c.look_at_wires.ensures c.args.text.now c.requires.fits c.requires.means c.in-Err-Fault.field-0-0
    (subst (FaultIs (IsTextFault c.args.text.now)) c.in-Err-Fault.field-0-is c.in-Err-Fault.ensures.fault)
