use Rattle.std.proofs.Common.{ap, subst, ◌∙◌}
use Rattle.base_types.specs.SinkChanges.{change}
use Rattle.cec_text_io.specs.Contents.{Holds}
use Rattle.cec_commands.specs.ExecTexts.{RunsBy}
use Rattle.cec_commands.specs.Outcomes.{ExecutesOn}
use Rattle.cec_commands.specs.Runs.{LeavesRun}
use Rattle.cec_commands.specs.Targets.{language_of}
use Rattle.cec_commands.proofs.FormLanguages.{form_language}
use Rattle.cec_commands.proofs.commands.exec.exec_bytes.Goals as goal

pub returns-clause-agrees : goal.returns-clause-agrees
returns-clause-agrees g c =
    subst (λ via. ExecutesOn via c.do_in_form.result c.args.text.now) (ap language_of c.form_by.ensures ∙ form_language c.args.via) c.do_in_form.ensures.agrees

pub returns-clause-out : goal.returns-clause-out
returns-clause-out g c =
    let came = change g.O.Sink.told g.O.Sink.faults c.args.out.now c.do_in_form.new.out in
    subst (λ via. LeavesRun (λ ended. Holds (g.F.Files.content c.args.files.now) c.args.trace.now
    (λ items. RunsBy via c.args.text.now items came ended)) came c.do_in_form.result) (ap language_of c.form_by.ensures ∙ form_language c.args.via)
    c.do_in_form.ensures.out
