use Rattle.std.proofs.Common.{subst}
use Rattle.base_types.specs.Stops.{FaultIs}
use Rattle.net_ir.specs.Runs.{netlist_of}
use Rattle.csub_guard_run.specs.Showing.{counted_program}
use Rattle.csub_guard_run.specs.Texts.{IsTextFault}
use Rattle.csub_guard_run.proofs.NetTexts.{reader-reads}
use Rattle.csub_guard_run.proofs.TextFaults.{written-faultless}
use Rattle.csub_guard_run.proofs.language.written_machine.Goals as goal

pub returns-in-Ok-clause-program : goal.returns-in-Ok-clause-program
returns-in-Ok-clause-program c =
    reader-reads c.args.text.now (netlist_of c.args.net.now) (counted_program c.in-Ok.machine) c.requires.written c.in-Ok.ensures.reads

pub unreachable-requires : goal.unreachable-requires
unreachable-requires c =
    written-faultless c.args.text.now (netlist_of c.args.net.now) c.requires.written c.requires.fits c.in-Err-Fault.field-0-0
    (subst (FaultIs (IsTextFault c.args.text.now)) c.in-Err-Fault.field-0-is c.in-Err-Fault.ensures.fault)
