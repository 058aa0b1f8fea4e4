use Rattle.std.proofs.Common.{map}
use Rattle.net_ir.specs.Runs.{netlist_of}
use Rattle.cec_opt_texts.proofs.Exports.{given-stop, lacking-input}
use Rattle.cec_opt_texts.specs.Related.{named_relation}
use Rattle.cec_opt_commands.proofs.Answers.{text_lines}
use Rattle.cec_opt_commands.proofs.counts.text_counts.Goals as goal

pub returns-in-Ok-clause-lines : goal.returns-in-Ok-clause-lines
returns-in-Ok-clause-lines c =
    text_lines (λ lines. lines.items) c.args.text.now (map named_relation c.args.given.now) (netlist_of c.in-Ok.net) c.both_lines.result
    c.in-Ok.ensures.net c.both_lines.ensures.lines

pub returns-in-Ok-clause-fault : goal.returns-in-Ok-clause-fault
returns-in-Ok-clause-fault c =
    lacking-input c.args.text.now (map named_relation c.args.given.now) (netlist_of c.in-Ok.net) c.both_lines.result c.in-Ok.ensures.net
    c.both_lines.ensures.fault

pub returns-in-Err-clause-fault : goal.returns-in-Err-clause-fault
returns-in-Err-clause-fault c = given-stop c.args.text.now (map named_relation c.args.given.now) c.in-Err.stop c.in-Err.ensures.fault
