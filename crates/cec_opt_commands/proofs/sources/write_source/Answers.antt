use Rattle.std.specs.Prelude.{option_map}
use Rattle.base_types.specs.SinkChanges.{change}
use Rattle.net_ir.specs.Runs.{netlist_of}
use Rattle.cec_opt_commands.specs.NetTexts.{IsWritten}
use Rattle.cec_opt_commands.specs.Words.{Write}
use Rattle.cec_opt_commands.proofs.Answers.{constructible, constructive_answers}
use Rattle.cec_opt_commands.proofs.Outcomes.{refused_leaves, refused_says, source_pieces, source_written}
use Rattle.cec_opt_commands.proofs.sources.write_source.Goals as goal

pub returns-in-Ok-clause-says : goal.returns-in-Ok-clause-says
returns-in-Ok-clause-says g c =
    let source = c.args.source.now in
    let main = option_map (λ m. m.now) c.args.main in
    rw c.from.ensures
    (source_written (Write c.args.form) c.write_net.result main source (constructible source main (netlist_of c.in-Ok.net) c.in-Ok.ensures.compiles))

pub returns-in-Ok-clause-out : goal.returns-in-Ok-clause-out
returns-in-Ok-clause-out g c =
    let source = c.args.source.now in
    let main = option_map (λ m. m.now) c.args.main in
    let net = netlist_of c.in-Ok.net in
    rw c.from.ensures
    (source_pieces (λ written. IsWritten c.args.form written net) c.args.form source main
    (change g.O.Sink.told g.O.Sink.faults c.args.out.now c.write_net.new.out) c.write_net.result
    (λ written is. constructive_answers c.args.form source main written net c.in-Ok.ensures.compiles c.in-Ok.ensures.made is) c.write_net.ensures)

pub returns-in-Err-clause-says : goal.returns-in-Err-clause-says
returns-in-Err-clause-says g c =
    refused_says (Write c.args.form) c.in-Err.refusal (option_map (λ m. m.now) c.args.main) c.args.source.now
    (change g.O.Sink.told g.O.Sink.faults c.args.out.now c.refused.new.out) c.refused.result c.in-Err.ensures.refuses c.refused.ensures

pub returns-in-Err-clause-out : goal.returns-in-Err-clause-out
returns-in-Err-clause-out g c =
    refused_leaves (Write c.args.form) c.in-Err.refusal (option_map (λ m. m.now) c.args.main) c.args.source.now
    (change g.O.Sink.told g.O.Sink.faults c.args.out.now c.refused.new.out) c.refused.result c.in-Err.ensures.refuses c.refused.ensures
