use Rattle.std.specs.Prelude.{option_map}
use Rattle.base_types.specs.SinkChanges.{change}
use Rattle.cec_compile.specs.SourceTexts.{IsSourceText}
use Rattle.cec_commands.proofs.Pieces.{refused_pieces, writing_makes, written_pieces, written_writes}
use Rattle.cec_commands.proofs.commands.texts.writing.write_picked.Goals as goal

pub returns-in-Ok-clause-agrees : goal.returns-in-Ok-clause-agrees
returns-in-Ok-clause-agrees g c =
    let main = option_map (λ m. m.now) c.args.main in
    rw c.from.ensures (writing_makes main _ c.args.source.now (written_writes c.in-Ok.ended) c.in-Ok.ensures.compiles)

pub returns-in-Ok-clause-out : goal.returns-in-Ok-clause-out
returns-in-Ok-clause-out g c =
    let main = option_map (λ m. m.now) c.args.main in
    rw c.from.ensures
    (written_pieces (IsSourceText c.args.form main c.args.source.now) (change g.O.Sink.told g.O.Sink.faults c.args.out.now c.write.new.out)
    c.in-Ok.ended c.in-Ok.ensures.out)

pub returns-in-Err-clause-out : goal.returns-in-Err-clause-out
returns-in-Err-clause-out g c =
    let main = option_map (λ m. m.now) c.args.main in
    rw c.from-in-Err.ensures
    (refused_pieces (IsSourceText c.args.form main c.args.source.now) c.in-Err.refusal
    (change g.O.Sink.told g.O.Sink.faults c.args.out.now c.write.new.out) c.in-Err.ensures.out)
