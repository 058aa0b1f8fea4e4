use Rattle.std.proofs.Common.{map}
use Rattle.base_types.specs.SinkChanges.{change}
use Rattle.base_types.proofs.Exports.{appends-nothing}
use Rattle.net_ir.specs.Runs.{netlist_of}
use Rattle.cec_opt_texts.specs.Related.{named_relation}
use Rattle.cec_opt_commands.specs.Answers.{IsAnswer}
use Rattle.cec_opt_commands.specs.NetTexts.{IsWritten}
use Rattle.cec_opt_commands.specs.Words.{Write}
use Rattle.cec_opt_commands.proofs.Answers.{small_answers, text_net}
use Rattle.cec_opt_commands.proofs.Outcomes.{written_says, written_pieces, stop_says, stop_leaves}
use Rattle.cec_opt_commands.proofs.texts.write_optimized.Goals as goal

pub returns-in-Ok-clause-says : goal.returns-in-Ok-clause-says
returns-in-Ok-clause-says g c =
    let text = c.args.text.now in
    let given = map named_relation c.args.given.now in
    let small = c.in-Ok.ensures.small in
    rw c.from.ensures
    (written_says (Write c.args.form) given c.write_net.result text
    (record { short = c.requires; net = small.small.made; of_text = text_net text given (netlist_of c.in-Ok.net) small }))

pub returns-in-Ok-clause-out : goal.returns-in-Ok-clause-out
returns-in-Ok-clause-out g c =
    let text = c.args.text.now in
    let given = map named_relation c.args.given.now in
    let net = netlist_of c.in-Ok.net in
    rw c.from.ensures
    (written_pieces (λ written. IsWritten c.args.form written net) (IsAnswer (Write c.args.form) text given)
    (change g.O.Sink.told g.O.Sink.faults c.args.out.now c.write_net.new.out) c.write_net.result
    (λ written is. small_answers c.args.form text given written net c.in-Ok.ensures.small is) c.write_net.ensures)

pub returns-in-Err-clause-says : goal.returns-in-Err-clause-says
returns-in-Err-clause-says g c =
    rw c.from-in-Err.ensures
    (stop_says (Write c.args.form) (map named_relation c.args.given.now) c.in-Err.stop c.args.text.now c.requires c.in-Err.ensures.fault)

pub returns-in-Err-clause-out : goal.returns-in-Err-clause-out
returns-in-Err-clause-out g c =
    rw c.from-in-Err.ensures
    (stop_leaves (Write c.args.form) (IsAnswer (Write c.args.form) c.args.text.now (map named_relation c.args.given.now)) c.in-Err.stop
    (change g.O.Sink.told g.O.Sink.faults c.args.out.now c.args.out.now)
    (appends-nothing (g.O.Sink.told c.args.out.now) (g.O.Sink.faults c.args.out.now)))
