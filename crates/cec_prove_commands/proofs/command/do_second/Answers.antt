use Rattle.std.proofs.Common.{ℕ, ◌≤◌, List, length, Err, subst, sym}
use Rattle.base_types.proofs.Exports.{appends-nothing}
use Rattle.base_types.specs.SinkChanges.{change}
use Rattle.base_types.specs.Reading.{Reads}
use Rattle.cec_text_io.proofs.Exports.{held_read}
use Rattle.cec_prove_commands.specs.Outcomes.{IsTextOf}
use Rattle.cec_prove_commands.specs.Statuses.{unread_outcome}
use Rattle.cec_prove_commands.specs.Views.{job_is}
use Rattle.cec_words.specs.declared.common.Which.TheVariants.{Second}
use Rattle.cec_prove_commands.proofs.Outcomes.{both_held, read_counts, second_agrees, second_counts, texts_agree, unread_err, unread_out}
use Rattle.cec_prove_commands.proofs.Outcomes.{held_short, texts_err, texts_out, texts_read}
use Rattle.cec_prove_commands.proofs.command.do_second.Goals as goal

pub told_answer-requires-clause-second : goal.told_answer-requires-clause-second
told_answer-requires-clause-second g c =
    subst (λ n. length c.deref.result.now ≤ n) c.byte_limit.ensures
    (subst (λ (b : List ℕ). length b ≤ c.byte_limit.result) (sym c.deref.ensures.value)
    (held_short (g.F.Files.content c.args.files.now) _ _ c.in-Ok.second c.in-Ok.ensures.bytes).1)

pub returns-in-Ok-clause-agrees : goal.returns-in-Ok-clause-agrees
returns-in-Ok-clause-agrees g c =
    let content = g.F.Files.content c.args.files.now in
    let job = job_is c.args.job in
    let second = c.deref.result.now in
    let held = held_read content _ _ c.in-Ok.second c.in-Ok.ensures.bytes in
    let both = both_held content job.task job c.args.text.now second _ _ c.requires.compares c.requires.held c.second_of.ensures
    c.deref.ensures.value held in
    texts_agree content job.task job c.told_answer.result c.args.text.now second both c.told_answer.ensures.says

pub returns-in-Ok-clause-files_counted : goal.returns-in-Ok-clause-files_counted
returns-in-Ok-clause-files_counted g c =
    let job = job_is c.args.job in
    let second = c.deref.result.now in
    read_counts job c.told_answer.result _ _ _ _
    (texts_read job.task c.told_answer.result job c.args.text.now second c.told_answer.ensures.says) c.in-Ok.ensures.counts

pub returns-in-Ok-clause-out : goal.returns-in-Ok-clause-out
returns-in-Ok-clause-out g c =
    let content = g.F.Files.content c.args.files.now in
    let job = job_is c.args.job in
    let second = c.deref.result.now in
    let held = held_read content _ _ c.in-Ok.second c.in-Ok.ensures.bytes in
    let both = both_held content job.task job c.args.text.now second _ _ c.requires.compares c.requires.held c.second_of.ensures
    c.deref.ensures.value held in
    texts_out content job.task job c.told_answer.result c.args.text.now second
    (change g.O.Sink.told g.O.Sink.faults c.args.out.now c.told_answer.new.out) both c.told_answer.ensures.out

pub returns-in-Ok-clause-err : goal.returns-in-Ok-clause-err
returns-in-Ok-clause-err g c =
    let content = g.F.Files.content c.args.files.now in
    let job = job_is c.args.job in
    let second = c.deref.result.now in
    let held = held_read content _ _ c.in-Ok.second c.in-Ok.ensures.bytes in
    let both = both_held content job.task job c.args.text.now second _ _ c.requires.compares c.requires.held c.second_of.ensures
    c.deref.ensures.value held in
    texts_err c.args.progress content job c.told_answer.result c.args.text.now second
    (change g.E.Sink.told g.E.Sink.faults c.args.err.now c.told_answer.new.err) both c.told_answer.ensures.says c.told_answer.ensures.err

pub returns-in-Err-clause-agrees : goal.returns-in-Err-clause-agrees
returns-in-Err-clause-agrees g c =
    let job = job_is c.args.job in
    let content = g.F.Files.content c.args.files.now in
    rw (c.unread_outcome-outcome.ensures, c.is_of_texts.ensures)
    (second_agrees content job.task job _ c.in-Err.fault c.requires.compares c.second_of.ensures
    (subst (λ n. Reads content c.second_of.result.now n (Err c.in-Err.fault)) c.byte_limit.ensures c.in-Err.ensures.bytes))

pub returns-in-Err-clause-files_counted : goal.returns-in-Err-clause-files_counted
returns-in-Err-clause-files_counted g c =
    rw c.unread_outcome-outcome.ensures
    (second_counts c.is_of_texts.result (job_is c.args.job) _ c.in-Err.fault _ _ _ _ c.second_of.ensures c.in-Err.ensures.counts)

pub returns-in-Err-clause-out : goal.returns-in-Err-clause-out
returns-in-Err-clause-out g c =
    let job = job_is c.args.job in
    rw c.unread_outcome-outcome.ensures
    (unread_out Second c.is_of_texts.result
    (IsTextOf job.task job (g.F.Files.content c.args.files.now) (unread_outcome Second c.is_of_texts.result c.in-Err.fault)) c.in-Err.fault
    (change g.O.Sink.told g.O.Sink.faults c.args.out.now c.args.out.now)
    (appends-nothing (g.O.Sink.told c.args.out.now) (g.O.Sink.faults c.args.out.now)))

pub returns-in-Err-clause-err : goal.returns-in-Err-clause-err
returns-in-Err-clause-err g c =
    unread_err Second c.args.progress c.is_of_texts.result (g.F.Files.content c.args.files.now) (job_is c.args.job) c.in-Err.fault _ _ _ _ _ _ _
    c.unread_outcome-outcome.ensures c.subject_of.ensures.subject c.report.ensures
