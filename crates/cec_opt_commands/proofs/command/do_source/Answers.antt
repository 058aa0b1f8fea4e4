use Rattle.std.proofs.Common.{subst}
use Rattle.std.specs.Prelude.{option_map}
use Rattle.base_types.proofs.Exports.{appends-nothing}
use Rattle.base_types.specs.SinkChanges.{change}
use Rattle.base_types.specs.declared.bounds.TheConstants.Limits.{SOURCE_BYTES}
use Rattle.cec_text_io.proofs.Exports.{held_read}
use Rattle.cec_text_io.specs.ErrorLines.{GainsLine}
use Rattle.cec_opt_commands.specs.Lines.{GainsAfter, line_of, source_subject}
use Rattle.cec_opt_commands.specs.Outcomes.{LeavesSourceAnswer, SourceSays}
use Rattle.cec_opt_commands.specs.Statuses.{source_unread_outcome}
use Rattle.cec_opt_commands.specs.Views.{plain_task, subject_is}
use Rattle.cec_opt_commands.proofs.Outcomes.{source_agrees, source_err, source_out, source_read_counts}
use Rattle.cec_opt_commands.proofs.Outcomes.{source_unread_agrees, source_unread_counts, source_unread_err, source_unread_out}
use Rattle.cec_opt_commands.proofs.command.do_source.Goals as goal

pub returns-in-Ok-clause-agrees : goal.returns-in-Ok-clause-agrees
returns-in-Ok-clause-agrees g c =
    let content = g.F.Files.content c.args.files.now in
    let main = option_map (λ m. m.now) c.args.main in
    source_agrees content (plain_task c.args.task) c.args.name.now main c.told_source.result c.in-Ok.source.items
    (held_read content c.args.name.now SOURCE_BYTES c.in-Ok.source c.in-Ok.ensures.bytes)
    (subst (SourceSays (plain_task c.args.task) main c.told_source.result) c.deref.ensures.value c.told_source.ensures.says)

pub returns-in-Ok-clause-files_counted : goal.returns-in-Ok-clause-files_counted
returns-in-Ok-clause-files_counted g c =
    source_read_counts (plain_task c.args.task) c.args.name.now (option_map (λ m. m.now) c.args.main) c.told_source.result c.deref.result.now _ _ _ _
    c.told_source.ensures.says c.in-Ok.ensures.counts

pub returns-in-Ok-clause-out : goal.returns-in-Ok-clause-out
returns-in-Ok-clause-out g c =
    let content = g.F.Files.content c.args.files.now in
    let main = option_map (λ m. m.now) c.args.main in
    let s = change g.O.Sink.told g.O.Sink.faults c.args.out.now c.told_source.new.out in
    source_out content (plain_task c.args.task) c.args.name.now main c.told_source.result c.in-Ok.source.items s
    (held_read content c.args.name.now SOURCE_BYTES c.in-Ok.source c.in-Ok.ensures.bytes)
    (subst (λ source. LeavesSourceAnswer (plain_task c.args.task) source main s c.told_source.result) c.deref.ensures.value
    c.told_source.ensures.out)

pub returns-in-Ok-clause-err : goal.returns-in-Ok-clause-err
returns-in-Ok-clause-err g c =
    let content = g.F.Files.content c.args.files.now in
    let main = option_map (λ m. m.now) c.args.main in
    let s = change g.E.Sink.told g.E.Sink.faults c.args.err.now c.told_source.new.err in
    source_err c.args.progress content c.args.name.now main c.told_source.result c.in-Ok.source.items s
    (held_read content c.args.name.now SOURCE_BYTES c.in-Ok.source c.in-Ok.ensures.bytes)
    (subst (λ source. GainsAfter c.args.progress s (line_of (source_subject c.args.name.now main source) c.told_source.result)) c.deref.ensures.value
    c.told_source.ensures.err)

pub returns-in-Err-clause-agrees : goal.returns-in-Err-clause-agrees
returns-in-Err-clause-agrees g c =
    rw c.source_unread_outcome-outcome.ensures
    (source_unread_agrees (g.F.Files.content c.args.files.now) (plain_task c.args.task) c.args.name.now (option_map (λ m. m.now) c.args.main) c.in-Err.fault
    c.in-Err.ensures.bytes)

pub returns-in-Err-clause-files_counted : goal.returns-in-Err-clause-files_counted
returns-in-Err-clause-files_counted g c =
    rw c.source_unread_outcome-outcome.ensures
    (source_unread_counts (plain_task c.args.task) c.args.name.now (option_map (λ m. m.now) c.args.main) c.in-Err.fault _ _ _ _ c.in-Err.ensures.counts)

pub returns-in-Err-clause-out : goal.returns-in-Err-clause-out
returns-in-Err-clause-out g c =
    rw c.source_unread_outcome-outcome.ensures
    (source_unread_out (g.F.Files.content c.args.files.now) (plain_task c.args.task) c.args.name.now (option_map (λ m. m.now) c.args.main) c.in-Err.fault
    (change g.O.Sink.told g.O.Sink.faults c.args.out.now c.args.out.now)
    (appends-nothing (g.O.Sink.told c.args.out.now) (g.O.Sink.faults c.args.out.now)))

pub returns-in-Err-clause-err : goal.returns-in-Err-clause-err
returns-in-Err-clause-err g c =
    let main = option_map (λ m. m.now) c.args.main in
    rw c.source_unread_outcome-outcome.ensures
    (source_unread_err c.args.progress (g.F.Files.content c.args.files.now) c.args.name.now main c.in-Err.fault
    (change g.E.Sink.told g.E.Sink.faults c.args.err.now c.report.new.err)
    (subst (λ t. GainsLine (g.E.Sink.told c.args.err.now) (g.E.Sink.told c.report.new.err) (g.E.Sink.faults c.args.err.now) (g.E.Sink.faults c.report.new.err)
    (line_of t (source_unread_outcome c.in-Err.fault))) c.source_subject.ensures.subject
    (subst (λ o. GainsLine (g.E.Sink.told c.args.err.now) (g.E.Sink.told c.report.new.err) (g.E.Sink.faults c.args.err.now) (g.E.Sink.faults c.report.new.err)
    (line_of (subject_is c.source_subject.result) o)) c.source_unread_outcome-outcome.ensures c.report.ensures)))
