use Rattle.std.proofs.Common.{map, refl, subst, ◌∙◌}
use Rattle.base_types.specs.declared.bounds.TheConstants.Limits.{SOURCE_BYTES}
use Rattle.base_types.specs.SinkChanges.{SinkChange}
use Rattle.grc_graph.specs.PlainWireNames.{wire_name_of}
use Rattle.cec_text_io.specs.Contents.{Holds}
use Rattle.cec_compile.specs.declared.refusal.Limit.TheVariants as limits
use Rattle.cec_commands.specs.Jobs.{RunTri}
use Rattle.cec_commands.specs.JobViews.{plain_job}
use Rattle.cec_commands.specs.Subjects.{plain_subject}
use Rattle.cec_commands.specs.TriRuns.{LeavesReactions, ReactsOn, ReactsOver, StopsOver}
use Rattle.cec_text_io.proofs.Exports.{held_read}
use Rattle.cec_commands.proofs.OneFile.{source_subject, err_alone, counts_unread, err_unread}
use Rattle.cec_commands.proofs.TwoFiles.{two_agree, two_count}
use Rattle.run_over_traces.proofs.Exports.{untouched}
use Rattle.cec_commands.proofs.ReactionFiles.{react_agrees_unread, reactions_as, reactions_unread_first}
use Rattle.cec_commands.proofs.commands.tri.react_file.Goals as goal

pub returns-in-Ok-clause-agrees : goal.returns-in-Ok-clause-agrees
returns-in-Ok-clause-agrees g c =
    let job = plain_job c.args.job in
    let content = g.F.Files.content c.args.files.now in
    two_agree content job.name c.args.trace.now (ReactsOn job.main) c.source_reactions-outcome.result c.in-Ok.source.items
    (held_read content job.name SOURCE_BYTES c.in-Ok.source c.in-Ok.ensures.bytes)
    (subst (ReactsOn job.main c.source_reactions-outcome.result) c.deref.ensures.value c.source_reactions-outcome.ensures.agrees)
    (rw (← c.in-Ok.ensures.content_stays) c.source_reactions-outcome.ensures.long_trace)

pub returns-in-Ok-clause-files_counted : goal.returns-in-Ok-clause-files_counted
returns-in-Ok-clause-files_counted g c =
    let job = plain_job c.args.job in
    two_count (RunTri job c.args.trace.now) c.args.trace.now c.source_reactions-outcome.result _ _ _ _ _ _ (λ n is. is) c.in-Ok.ensures.counts
    c.source_reactions-outcome.ensures.files_counted

pub returns-in-Ok-clause-out : goal.returns-in-Ok-clause-out
returns-in-Ok-clause-out g c =
    let job = plain_job c.args.job in
    let content = g.F.Files.content c.args.files.now in
    let s : SinkChange = record {
      before = g.O.Sink.told c.args.out.now;
      after = g.O.Sink.told c.source_reactions-outcome.new.out;
      faults_before = g.O.Sink.faults c.args.out.now;
      faults_now = g.O.Sink.faults c.source_reactions-outcome.new.out;
    } in
    let trace = c.args.trace.now in
    let held = held_read content job.name SOURCE_BYTES c.in-Ok.source c.in-Ok.ensures.bytes in
    reactions_as (λ ended. Holds content trace (λ items. ReactsOver job.main c.in-Ok.source.items items s ended))
    (λ ended. Holds content job.name (λ bytes. Holds content trace (λ items. ReactsOver job.main bytes items s ended)))
    (λ wires. Holds content trace (λ items. StopsOver job.main c.in-Ok.source.items items s wires.instant (map wire_name_of wires.wires.items)))
    (λ wires. Holds content job.name (λ bytes.
    Holds content trace (λ items. StopsOver job.main bytes items s wires.instant (map wire_name_of wires.wires.items)))) s c.source_reactions-outcome.result
    (λ r ran. (c.in-Ok.source.items, held, ran)) (λ wires stopped. (c.in-Ok.source.items, held, stopped))
    (subst (λ bytes. LeavesReactions (λ ended. Holds content trace (λ items. ReactsOver job.main bytes items s ended))
    (λ wires. Holds content trace (λ items. StopsOver job.main bytes items s wires.instant (map wire_name_of wires.wires.items))) s
    c.source_reactions-outcome.result) c.deref.ensures.value
    (subst (λ k. LeavesReactions (λ ended. Holds k trace (λ items. ReactsOver job.main c.deref.result.now items s ended))
    (λ wires. Holds k trace (λ items. StopsOver job.main c.deref.result.now items s wires.instant (map wire_name_of wires.wires.items))) s
    c.source_reactions-outcome.result) c.in-Ok.ensures.content_stays c.source_reactions-outcome.ensures.out))

pub returns-in-Ok-clause-err : goal.returns-in-Ok-clause-err
returns-in-Ok-clause-err g c =
    let job = plain_job c.args.job in
    let content = g.F.Files.content c.args.files.now in
    let subject = c.subject_of.ensures in
    err_alone _ content c.source_reactions-outcome.result (plain_subject c.subject_of.result) _ _ _ _ (
      source_subject content job c.in-Ok.source.items (plain_subject c.subject_of.result)
          (held_read content job.name SOURCE_BYTES c.in-Ok.source c.in-Ok.ensures.bytes) subject.name subject.main
          (subject.source ∙ c.deref-in-Ok.ensures.value),
      subject.trace,
    ) c.report.ensures

pub returns-in-Err-clause-agrees : goal.returns-in-Err-clause-agrees
returns-in-Err-clause-agrees g c =
    rw c.unread-outcome.ensures
    (react_agrees_unread (g.F.Files.content c.args.files.now) (plain_job c.args.job) c.args.trace.now c.in-Err.fault c.in-Err.ensures.bytes)

pub returns-in-Err-clause-out : goal.returns-in-Err-clause-out
returns-in-Err-clause-out g c =
    let job = plain_job c.args.job in
    let content = g.F.Files.content c.args.files.now in
    let trace = c.args.trace.now in
    let s = untouched (g.O.Sink.told c.args.out.now) (g.O.Sink.faults c.args.out.now) in
    rw c.unread-outcome.ensures
    (reactions_unread_first (λ ended. Holds content job.name (λ bytes. Holds content trace (λ items. ReactsOver job.main bytes items s ended)))
    (λ wires. Holds content job.name (λ bytes.
    Holds content trace (λ items. StopsOver job.main bytes items s wires.instant (map wire_name_of wires.wires.items)))) s c.in-Err.fault (refl, refl))

pub returns-in-Err-clause-files_counted : goal.returns-in-Err-clause-files_counted
returns-in-Err-clause-files_counted g c =
    let job = plain_job c.args.job in
    rw c.unread-outcome.ensures
    (counts_unread (RunTri job c.args.trace.now) job.name limits.Source c.in-Err.fault _ _ _ _ (λ n is. is) c.in-Err.ensures.counts)

pub returns-in-Err-clause-err : goal.returns-in-Err-clause-err
returns-in-Err-clause-err g c =
    let job = plain_job c.args.job in
    rw c.unread-outcome.ensures
    (err_unread (RunTri job c.args.trace.now) (g.F.Files.content c.args.files.now) job c.args.trace.now c.in-Err.fault
    (plain_subject c.subject_of-in-Err.result) _ _ _ _ (λ y is same. (is, same)) c.subject_of-in-Err.ensures.name
    (rw (← c.unread-outcome.ensures) c.report-in-Err.ensures))
