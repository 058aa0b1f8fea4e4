use Rattle.std.proofs.Common.{sym, subst}
use Rattle.base_types.specs.Stops.{FaultIs}
use Rattle.net_ir.specs.Runs.{netlist_of}
use Rattle.csub_run.specs.Runners.{program_in}
use Rattle.csub_run.specs.Texts.{IsTextFault}
use Rattle.csub_run.proofs.NetTexts.{inputs-counted, outputs-counted, reader-reads, runner-net}
use Rattle.csub_run.proofs.TextFaults.{written-faultless}
use Rattle.csub_run.proofs.language.CTextsLanguage.read_back.Goals as goal

pub returns-in-Ok-clause-shows : goal.returns-in-Ok-clause-shows
returns-in-Ok-clause-shows c =
    let net = netlist_of c.args.net.now in
    runner-net net c.in-Ok.machine (reader-reads c.args.text.now net (program_in c.in-Ok.machine) c.requires.means.means c.in-Ok.ensures.reads)
    c.in-Ok.ensures.fresh

pub returns-in-Ok-clause-each_input : goal.returns-in-Ok-clause-each_input
returns-in-Ok-clause-each_input c =
    let net = netlist_of c.args.net.now in
    sym (inputs-counted net _ (reader-reads c.args.text.now net (program_in c.in-Ok.machine) c.requires.means.means c.in-Ok.ensures.reads))

pub returns-in-Ok-clause-each_output : goal.returns-in-Ok-clause-each_output
returns-in-Ok-clause-each_output c =
    let net = netlist_of c.args.net.now in
    sym (outputs-counted net _ (reader-reads c.args.text.now net (program_in c.in-Ok.machine) c.requires.means.means c.in-Ok.ensures.reads))

pub unreachable-requires : goal.unreachable-requires
unreachable-requires c =
    written-faultless (netlist_of c.args.net.now) c.args.text.now c.requires.means.means c.requires.fits c.in-Err-Fault.field-0-0
    (subst (FaultIs (IsTextFault c.args.text.now)) c.in-Err-Fault.field-0-is c.in-Err-Fault.ensures.fault)
