use Rattle.std.proofs.Common.{sym, subst}
use Rattle.std.specs.Prelude.{Some, option_map}
use Rattle.std.proofs.lemmas.Result.{MatchResult-weaker}
use Rattle.base_types.specs.SinkChanges.{change}
use Rattle.cec_text_io.proofs.Exports.{pieces_as}
use Rattle.cec_compile.specs.SourceTexts.{IsSourceText}
use Rattle.cec_compile.specs.declared.forms.TextForm.TheVariants.{Guarded}
use Rattle.cec_commands.proofs.targets.GuardedTargetTarget.write.Goals as goal

pub returns-clause-out : goal.returns-clause-out
returns-clause-out g c =
    let main = option_map (λ m. m.now) c.args.main in
    let bytes = c.args.source.now in
    let came = change g.O.Sink.told g.O.Sink.faults c.args.out.now c.write_guarded_text.new.out in
    MatchResult-weaker c.write_guarded_text.result c.write_guarded_text.ensures.out
    (λ ended. pieces_as (IsSourceText Guarded main bytes) (IsSourceText c.args._form main bytes) came (Some ended)
    (λ text is. subst (λ form. IsSourceText form main bytes text) (sym c.requires.form) is))
    (λ refusal is. is)
