use Rattle.std.proofs.Common.{◌∙◌, sym}
use Rattle.base_types.specs.SinkChanges.{change}
use Rattle.cec_prove_commands.specs.Views.{job_is}
use Rattle.cec_prove_commands.proofs.Outcomes.{kept, one_held, read_counts, texts_agree, texts_err, texts_out, texts_read}
use Rattle.cec_prove_commands.proofs.command.do_text.Goals as goal

pub returns-else-is_comparison-clause-agrees : goal.returns-else-is_comparison-clause-agrees
returns-else-is_comparison-clause-agrees g c =
    let content = g.F.Files.content c.args.files.now in
    let job = job_is c.args.job in
    texts_agree content job.task job c.told_answer.result c.args.text.now _
    (one_held content job.task job c.args.text.now _ (sym c.is_comparison.ensures ∙ c.if-is_comparison.false) c.requires.held) c.told_answer.ensures.says

pub returns-else-is_comparison-clause-files_counted : goal.returns-else-is_comparison-clause-files_counted
returns-else-is_comparison-clause-files_counted g c =
    let job = job_is c.args.job in
    read_counts job c.told_answer.result _ _ _ _ (texts_read job.task c.told_answer.result job c.args.text.now _ c.told_answer.ensures.says) (kept _ _)

pub returns-else-is_comparison-clause-out : goal.returns-else-is_comparison-clause-out
returns-else-is_comparison-clause-out g c =
    let content = g.F.Files.content c.args.files.now in
    let job = job_is c.args.job in
    texts_out content job.task job c.told_answer.result c.args.text.now _
    (change g.O.Sink.told g.O.Sink.faults c.args.out.now c.told_answer.new.out)
    (one_held content job.task job c.args.text.now _ (sym c.is_comparison.ensures ∙ c.if-is_comparison.false) c.requires.held) c.told_answer.ensures.out

pub returns-else-is_comparison-clause-err : goal.returns-else-is_comparison-clause-err
returns-else-is_comparison-clause-err g c =
    let content = g.F.Files.content c.args.files.now in
    let job = job_is c.args.job in
    texts_err c.args.progress content job c.told_answer.result c.args.text.now _
    (change g.E.Sink.told g.E.Sink.faults c.args.err.now c.told_answer.new.err)
    (one_held content job.task job c.args.text.now _ (sym c.is_comparison.ensures ∙ c.if-is_comparison.false) c.requires.held)
    c.told_answer.ensures.says c.told_answer.ensures.err
