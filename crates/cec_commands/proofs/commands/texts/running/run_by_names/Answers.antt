use Rattle.std.proofs.Common.{map}
use Rattle.base_types.specs.Relations.{relation_of}
use Rattle.net_ir.specs.Netlists.{output_names}
use Rattle.net_ir.specs.Runs.{netlist_of}
use Rattle.run_trace_io.specs.Answers.{beginning}
use Rattle.cec_commands.proofs.RunLines.{runs_nothing}
use Rattle.cec_commands.proofs.commands.texts.running.run_by_names.Goals as goal

pub returns-in-Err : goal.returns-in-Err
returns-in-Err g c =
    let net = netlist_of c.args.made.net in
    runs_nothing c.args.form c.args.text.now (output_names net) net
    (beginning c.args.trace.items net.inputs (map relation_of c.args.made.program.relations.items)) (g.O.Sink.told c.args.out.now)
    (g.O.Sink.faults c.args.out.now) c.requires.text
