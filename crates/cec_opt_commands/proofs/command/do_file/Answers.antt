use Rattle.std.proofs.Common.{map, subst}
use Rattle.std.specs.String.{string_bytes}
use Rattle.base_types.proofs.Exports.{appends-nothing}
use Rattle.base_types.specs.SinkChanges.{change}
use Rattle.base_types.specs.declared.bounds.TheConstants.Limits.{TEXT_BYTES}
use Rattle.cec_text_io.proofs.Exports.{held_read}
use Rattle.cec_text_io.specs.ErrorLines.{GainsLine}
use Rattle.cec_opt_commands.specs.Answers.{IsAnswer}
use Rattle.cec_opt_commands.specs.Lines.{line_of}
use Rattle.cec_opt_commands.specs.Outcomes.{SaysOf, LeavesAnswer}
use Rattle.cec_opt_commands.specs.Relations.{given_by}
use Rattle.cec_opt_commands.specs.Views.{plain_task}
use Rattle.cec_opt_commands.proofs.Outcomes.{none_waits, read_agrees, read_counts, read_out, unread_agrees, unread_counts, unread_out}
use Rattle.cec_opt_commands.proofs.command.do_file.Goals as goal

pub returns-in-Ok-clause-agrees : goal.returns-in-Ok-clause-agrees
returns-in-Ok-clause-agrees g c =
    let content = g.F.Files.content c.args.files.now in
    let task = plain_task c.args.task in
    let given = given_by (map string_bytes c.args.given.now) in
    read_agrees content task given c.args.name.now c.told_text.result c.in-Ok.text.items
    (held_read content c.args.name.now TEXT_BYTES c.in-Ok.text c.in-Ok.ensures.bytes)
    (subst (SaysOf task given c.told_text.result) c.deref.ensures.value c.told_text.ensures.says)

pub returns-in-Ok-clause-files_counted : goal.returns-in-Ok-clause-files_counted
returns-in-Ok-clause-files_counted g c =
    read_counts (plain_task c.args.task) (given_by (map string_bytes c.args.given.now)) c.args.name.now c.told_text.result c.deref.result.now _ _ _ _
    c.told_text.ensures.says c.in-Ok.ensures.counts

pub returns-in-Ok-clause-out : goal.returns-in-Ok-clause-out
returns-in-Ok-clause-out g c =
    let content = g.F.Files.content c.args.files.now in
    let s = change g.O.Sink.told g.O.Sink.faults c.args.out.now c.told_text.new.out in
    let task = plain_task c.args.task in
    let given = given_by (map string_bytes c.args.given.now) in
    read_out content task given c.args.name.now c.told_text.result c.in-Ok.text.items s
    (held_read content c.args.name.now TEXT_BYTES c.in-Ok.text c.in-Ok.ensures.bytes)
    (subst (λ text. LeavesAnswer task (IsAnswer task text given) s c.told_text.result) c.deref.ensures.value c.told_text.ensures.out)

pub returns-in-Err-clause-agrees : goal.returns-in-Err-clause-agrees
returns-in-Err-clause-agrees g c =
    rw c.from-outcome.ensures
    (unread_agrees (g.F.Files.content c.args.files.now) (plain_task c.args.task) (given_by (map string_bytes c.args.given.now)) c.args.name.now
    c.in-Err.fault c.in-Err.ensures.bytes)

pub returns-in-Err-clause-files_counted : goal.returns-in-Err-clause-files_counted
returns-in-Err-clause-files_counted g c =
    rw c.from-outcome.ensures
    (unread_counts (plain_task c.args.task) (given_by (map string_bytes c.args.given.now)) c.args.name.now c.in-Err.fault _ _ _ _ c.in-Err.ensures.counts)

pub returns-in-Err-clause-out : goal.returns-in-Err-clause-out
returns-in-Err-clause-out g c =
    rw c.from-outcome.ensures
    (unread_out (g.F.Files.content c.args.files.now) (plain_task c.args.task) (given_by (map string_bytes c.args.given.now)) c.args.name.now c.in-Err.fault
    (change g.O.Sink.told g.O.Sink.faults c.args.out.now c.args.out.now)
    (appends-nothing (g.O.Sink.told c.args.out.now) (g.O.Sink.faults c.args.out.now)))

pub returns-in-Err-clause-err : goal.returns-in-Err-clause-err
returns-in-Err-clause-err g c =
    none_waits c.args.progress (change g.E.Sink.told g.E.Sink.faults c.args.err.now c.report.new.err) _
    (subst (λ t. GainsLine (g.E.Sink.told c.args.err.now) (g.E.Sink.told c.report.new.err) (g.E.Sink.faults c.args.err.now) (g.E.Sink.faults c.report.new.err)
    (line_of t c.from-outcome.result)) c.named.ensures.subject c.report.ensures)
