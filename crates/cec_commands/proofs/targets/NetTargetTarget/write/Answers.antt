use Rattle.std.specs.Prelude.{Some, option_map}
use Rattle.std.proofs.lemmas.Result.{MatchResult-weaker}
use Rattle.base_types.specs.SinkChanges.{change}
use Rattle.cec_text_io.specs.NetWriting.{IsWrittenIn}
use Rattle.cec_text_io.proofs.Exports.{pieces_as}
use Rattle.cec_compile.specs.MadeNets.{IsWrittenOf}
use Rattle.cec_compile.specs.SourceTexts.{IsSourceText}
use Rattle.cec_commands.proofs.targets.NetTargetTarget.write.Goals as goal

pub returns-clause-out : goal.returns-clause-out
returns-clause-out g c =
    let main = option_map (λ m. m.now) c.args.main in
    let bytes = c.args.source.now in
    let came = change g.O.Sink.told g.O.Sink.faults c.args.out.now c.write_source_text.new.out in
    MatchResult-weaker c.write_source_text.result c.write_source_text.ensures.out
    (λ ended. pieces_as (IsWrittenOf c.args.form (IsWrittenIn g.W.NetText.written g.W.NetText.means) bytes main) (IsSourceText c.args.form main bytes) came
    (Some ended) (c.requires.form.0.answers bytes main))
    (λ refusal is. is)
