use Rattle.std.proofs.Common.{ℕ, ◌≤◌, List, length, Err, Ok, subst, sym}
use Rattle.base_types.proofs.Exports.{appends-nothing}
use Rattle.base_types.specs.SinkChanges.{change}
use Rattle.base_types.specs.Reading.{Reads}
use Rattle.cec_text_io.proofs.Exports.{held_read}
use Rattle.cec_text_io.specs.Contents.{Content, IsHeld}
use Rattle.cec_prove_commands.specs.Lines.{GainsJobErr}
use Rattle.cec_prove_commands.specs.Outcomes.{GainsOut, IsOutcomeOf, IsTextOf}
use Rattle.cec_prove_commands.specs.Statuses.{unread_outcome}
use Rattle.cec_prove_commands.specs.Views.{job_is}
use Rattle.cec_prove_commands.specs.Words.{Do}
use Rattle.cec_words.specs.declared.common.Which.TheVariants.{First}
use Rattle.cec_prove_commands.proofs.Outcomes.{counts-later, held_short, unread_agrees, unread_counts, unread_err, unread_out}
use Rattle.cec_prove_commands.proofs.command.do_file.Goals as goal

pub do_text-requires-clause-short : goal.do_text-requires-clause-short
do_text-requires-clause-short g c =
    subst (λ n. length c.deref.result.now ≤ n) c.byte_limit.ensures
    (subst (λ (b : List ℕ). length b ≤ c.byte_limit.result) (sym c.deref.ensures.value)
    (held_short (g.F.Files.content c.args.files.now) c.args.job.name.now _ c.in-Ok.text c.in-Ok.ensures.bytes).1)

pub do_text-requires-clause-held : goal.do_text-requires-clause-held
do_text-requires-clause-held g c =
    let content = g.F.Files.content c.args.files.now in
    let name = c.args.job.name.now in
    subst (λ (k : Content). IsHeld k name c.deref.result.now) (sym c.in-Ok.ensures.content_stays)
    (subst (IsHeld content name) (sym c.deref.ensures.value) (held_read content name _ c.in-Ok.text c.in-Ok.ensures.bytes))

pub returns-in-Ok-clause-agrees : goal.returns-in-Ok-clause-agrees
returns-in-Ok-clause-agrees g c =
    subst (λ (k : Content). IsOutcomeOf (Ok (Do (job_is c.args.job))) k c.do_text.result) c.in-Ok.ensures.content_stays c.do_text.ensures.agrees

pub returns-in-Ok-clause-files_counted : goal.returns-in-Ok-clause-files_counted
returns-in-Ok-clause-files_counted g c =
    counts-later (Ok (Do (job_is c.args.job))) c.do_text.result _ _ _ _ _ _ c.in-Ok.ensures.counts c.do_text.ensures.files_counted

pub returns-in-Ok-clause-out : goal.returns-in-Ok-clause-out
returns-in-Ok-clause-out g c =
    subst (λ (k : Content). GainsOut (Ok (Do (job_is c.args.job))) k c.do_text.result
    (change g.O.Sink.told g.O.Sink.faults c.args.out.now c.do_text.new.out)) c.in-Ok.ensures.content_stays c.do_text.ensures.out

pub returns-in-Ok-clause-err : goal.returns-in-Ok-clause-err
returns-in-Ok-clause-err g c =
    subst (λ (k : Content). GainsJobErr c.args.progress (job_is c.args.job) k c.do_text.result (g.E.Sink.told c.args.err.now) (g.E.Sink.told c.do_text.new.err)
    (g.E.Sink.faults c.args.err.now) (g.E.Sink.faults c.do_text.new.err)) c.in-Ok.ensures.content_stays c.do_text.ensures.err

pub returns-in-Err-clause-agrees : goal.returns-in-Err-clause-agrees
returns-in-Err-clause-agrees g c =
    let job = job_is c.args.job in
    let content = g.F.Files.content c.args.files.now in
    rw (c.unread_outcome-outcome.ensures, c.is_of_texts.ensures)
    (unread_agrees content job.task job c.in-Err.fault
    (subst (λ n. Reads content job.name n (Err c.in-Err.fault)) c.byte_limit.ensures c.in-Err.ensures.bytes))

pub returns-in-Err-clause-files_counted : goal.returns-in-Err-clause-files_counted
returns-in-Err-clause-files_counted g c =
    rw c.unread_outcome-outcome.ensures (unread_counts First c.is_of_texts.result (job_is c.args.job) c.in-Err.fault _ _ _ _ c.in-Err.ensures.counts)

pub returns-in-Err-clause-out : goal.returns-in-Err-clause-out
returns-in-Err-clause-out g c =
    let job = job_is c.args.job in
    rw c.unread_outcome-outcome.ensures
    (unread_out First c.is_of_texts.result
    (IsTextOf job.task job (g.F.Files.content c.args.files.now) (unread_outcome First c.is_of_texts.result c.in-Err.fault))
    c.in-Err.fault
    (change g.O.Sink.told g.O.Sink.faults c.args.out.now c.args.out.now)
    (appends-nothing (g.O.Sink.told c.args.out.now) (g.O.Sink.faults c.args.out.now)))

pub returns-in-Err-clause-err : goal.returns-in-Err-clause-err
returns-in-Err-clause-err g c =
    unread_err First c.args.progress c.is_of_texts.result (g.F.Files.content c.args.files.now) (job_is c.args.job) c.in-Err.fault _ _ _ _ _ _ _
    c.unread_outcome-outcome.ensures c.subject_of.ensures.subject c.report.ensures
