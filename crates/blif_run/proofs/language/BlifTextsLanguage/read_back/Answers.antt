use Rattle.std.proofs.Common.{subst}
use Rattle.base_types.specs.Stops.{FaultIs}
use Rattle.net_ir.specs.Runs.{netlist_of}
use Rattle.blif_run.specs.Texts.{IsTextFault}
use Rattle.blif_run.proofs.NetLoops.{written-circuit}
use Rattle.blif_run.proofs.NetTexts.{net-inputs, net-outputs, runner-net}
use Rattle.blif_run.proofs.TextFaults.{written-faultless}
use Rattle.blif_run.proofs.language.BlifTextsLanguage.read_back.Goals as goal

pub returns-in-Ok-clause-each_input : goal.returns-in-Ok-clause-each_input
returns-in-Ok-clause-each_input c =
    let net = netlist_of c.args.net.now in
    net-inputs net c.in-Ok.machine.circuit (written-circuit net c.look_at_wires.ensures c.args.text.now c.in-Ok.machine.circuit c.requires.means.spelled
    c.requires.means.means c.in-Ok.ensures.reads.is_read)

pub returns-in-Ok-clause-each_output : goal.returns-in-Ok-clause-each_output
returns-in-Ok-clause-each_output c =
    let net = netlist_of c.args.net.now in
    net-outputs net c.in-Ok.machine.circuit (written-circuit net c.look_at_wires.ensures c.args.text.now c.in-Ok.machine.circuit c.requires.means.spelled
    c.requires.means.means c.in-Ok.ensures.reads.is_read)

pub returns-in-Ok-clause-shows : goal.returns-in-Ok-clause-shows
returns-in-Ok-clause-shows c =
    let net = netlist_of c.args.net.now in
    runner-net net c.in-Ok.machine (written-circuit net c.look_at_wires.ensures c.args.text.now c.in-Ok.machine.circuit c.requires.means.spelled
    c.requires.means.means c.in-Ok.ensures.reads.is_read) c.in-Ok.ensures.fresh

pub unreachable-requires : goal.unreachable-requires
unreachable-requires c =
    written-faultless (netlist_of c.args.net.now) c.look_at_wires.ensures c.args.text.now c.requires.means c.in-Err-Fault.field-0-0
    (subst (FaultIs (IsTextFault c.args.text.now)) c.in-Err-Fault.field-0-is c.in-Err-Fault.ensures.fault)
