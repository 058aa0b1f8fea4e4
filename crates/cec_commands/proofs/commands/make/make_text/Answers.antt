use Rattle.std.proofs.Common.{subst, ◌∙◌}
use Rattle.base_types.specs.declared.bounds.TheConstants.Limits.{SOURCE_BYTES}
use Rattle.base_types.specs.SinkChanges.{SinkChange}
use Rattle.cec_commands.specs.Answers.{IsAnswer}
use Rattle.cec_compile.specs.declared.refusal.Limit.TheVariants as limits
use Rattle.cec_commands.specs.Jobs.{Make}
use Rattle.cec_commands.specs.JobViews.{plain_job}
use Rattle.cec_commands.specs.Outcomes.{MakesOn, LeavesAnswer}
use Rattle.cec_commands.specs.Subjects.{plain_subject}
use Rattle.cec_text_io.proofs.Exports.{held_read}
use Rattle.cec_commands.proofs.OneFile.{make_agrees, make_counts, make_out, source_subject, err_alone}
use Rattle.cec_commands.proofs.OneFile.{make_agrees_unread, counts_unread, err_unread}
use Rattle.cec_commands.proofs.commands.make.make_text.Goals as goal

pub returns-in-Ok-clause-agrees : goal.returns-in-Ok-clause-agrees
returns-in-Ok-clause-agrees g c =
    let job = plain_job c.args.job in
    let content = g.F.Files.content c.args.files.now in
    make_agrees content c.args.task job c.do_task-outcome.result c.in-Ok.source.items
    (held_read content job.name SOURCE_BYTES c.in-Ok.source c.in-Ok.ensures.bytes)
    (subst (MakesOn job.main c.do_task-outcome.result) c.deref.ensures.value c.do_task-outcome.ensures.agrees)

pub returns-in-Ok-clause-files_counted : goal.returns-in-Ok-clause-files_counted
returns-in-Ok-clause-files_counted g c =
    let job = plain_job c.args.job in
    let read = c.in-Ok.ensures.counts in
    let stays = c.do_task-outcome.ensures.files_counted in
    make_counts c.args.task job c.do_task-outcome.result c.deref.result.now _ _ _ _ c.do_task-outcome.ensures.agrees
    (record { faults = stays.faults ∙ read.faults; failed = stays.failed ∙ read.failed })

pub returns-in-Ok-clause-out : goal.returns-in-Ok-clause-out
returns-in-Ok-clause-out g c =
    let job = plain_job c.args.job in
    let content = g.F.Files.content c.args.files.now in
    let s : SinkChange = record {
      before = g.O.Sink.told c.args.out.now;
      after = g.O.Sink.told c.do_task-outcome.new.out;
      faults_before = g.O.Sink.faults c.args.out.now;
      faults_now = g.O.Sink.faults c.do_task-outcome.new.out;
    } in
    make_out content c.args.task job c.do_task-outcome.result c.in-Ok.source.items s
    (held_read content job.name SOURCE_BYTES c.in-Ok.source c.in-Ok.ensures.bytes)
    (subst (λ bytes. LeavesAnswer c.args.task (IsAnswer c.args.task job.main bytes) s c.do_task-outcome.result)
    c.deref.ensures.value c.do_task-outcome.ensures.out)

pub returns-in-Ok-clause-err : goal.returns-in-Ok-clause-err
returns-in-Ok-clause-err g c =
    let job = plain_job c.args.job in
    let content = g.F.Files.content c.args.files.now in
    let subject = c.subject_of.ensures in
    err_alone _ content c.do_task-outcome.result (plain_subject c.subject_of.result) _ _ _ _
    (source_subject content job c.in-Ok.source.items (plain_subject c.subject_of.result)
    (held_read content job.name SOURCE_BYTES c.in-Ok.source c.in-Ok.ensures.bytes) subject.name subject.main (subject.source ∙ c.deref-in-Ok.ensures.value))
    c.report.ensures

pub returns-in-Err-clause-agrees : goal.returns-in-Err-clause-agrees
returns-in-Err-clause-agrees g c =
    rw c.unread-outcome.ensures
    (make_agrees_unread (g.F.Files.content c.args.files.now) c.args.task (plain_job c.args.job) c.in-Err.fault c.in-Err.ensures.bytes)

pub returns-in-Err-clause-files_counted : goal.returns-in-Err-clause-files_counted
returns-in-Err-clause-files_counted g c =
    let job = plain_job c.args.job in
    rw c.unread-outcome.ensures
    (counts_unread (Make c.args.task job) job.name limits.Source c.in-Err.fault _ _ _ _ (λ n is. is) c.in-Err.ensures.counts)

pub returns-in-Err-clause-err : goal.returns-in-Err-clause-err
returns-in-Err-clause-err g c =
    let job = plain_job c.args.job in
    rw c.unread-outcome.ensures
    (err_unread (Make c.args.task job) (g.F.Files.content c.args.files.now) job (plain_subject c.subject_of-in-Err.result).trace c.in-Err.fault
    (plain_subject c.subject_of-in-Err.result) _ _ _ _ (λ y is same. is) c.subject_of-in-Err.ensures.name
    (rw (← c.unread-outcome.ensures) c.report-in-Err.ensures))
