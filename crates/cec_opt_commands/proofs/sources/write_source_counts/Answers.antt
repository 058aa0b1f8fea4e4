use Rattle.std.proofs.Common.{◌≡◌, ◌∙◌, sym, subst}
use Rattle.std.specs.Prelude.{option_map}
use Rattle.base_types.specs.SinkChanges.{change}
use Rattle.cec_opt_commands.specs.Answers.{TellsAny}
use Rattle.cec_opt_commands.specs.Words.{Check}
use Rattle.cec_opt_commands.proofs.Answers.{told_constructible}
use Rattle.cec_opt_commands.proofs.Outcomes.{refused_leaves, refused_says, source_whole, source_written}
use Rattle.cec_opt_commands.proofs.sources.write_source_counts.Goals as goal

pub returns-in-Ok-clause-says : goal.returns-in-Ok-clause-says
returns-in-Ok-clause-says g c =
    let source = c.args.source.now in
    let main = option_map (λ m. m.now) c.args.main in
    rw c.from.ensures (source_written Check c.write_whole.result main source (told_constructible source main c.in-Ok.lines.items c.in-Ok.ensures.lines))

pub returns-in-Ok-clause-out : goal.returns-in-Ok-clause-out
returns-in-Ok-clause-out g c =
    let main = option_map (λ m. m.now) c.args.main in
    rw c.from.ensures
    (source_whole (λ written. written ≡ c.deref.result.now) Check c.args.source.now main
    (change g.O.Sink.told g.O.Sink.faults c.args.out.now c.write_whole.new.out) c.write_whole.result
    (λ written is. subst (TellsAny c.args.source.now main) (sym (is ∙ c.deref.ensures.value)) c.in-Ok.ensures.lines) c.write_whole.ensures)

pub returns-in-Err-clause-says : goal.returns-in-Err-clause-says
returns-in-Err-clause-says g c =
    refused_says Check c.in-Err.refusal (option_map (λ m. m.now) c.args.main) c.args.source.now
    (change g.O.Sink.told g.O.Sink.faults c.args.out.now c.refused.new.out) c.refused.result c.in-Err.ensures.refuses c.refused.ensures

pub returns-in-Err-clause-out : goal.returns-in-Err-clause-out
returns-in-Err-clause-out g c =
    refused_leaves Check c.in-Err.refusal (option_map (λ m. m.now) c.args.main) c.args.source.now
    (change g.O.Sink.told g.O.Sink.faults c.args.out.now c.refused.new.out) c.refused.result c.in-Err.ensures.refuses c.refused.ensures
