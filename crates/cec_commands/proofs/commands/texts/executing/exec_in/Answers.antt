use Rattle.base_types.specs.declared.bounds.TheConstants.Limits.{TRACE_BYTES}
use Rattle.base_types.specs.SinkChanges.{change}
use Rattle.cec_text_io.specs.Contents.{Holds}
use Rattle.cec_text_io.proofs.Exports.{held_read}
use Rattle.cec_commands.specs.ExecTexts.{RunsBy}
use Rattle.cec_commands.specs.Targets.{language_of}
use Rattle.cec_commands.proofs.TwoFiles.{leaves_ran, long_trace_unread}
use Rattle.cec_commands.proofs.commands.texts.executing.exec_in.Goals as goal

pub returns-in-Ok-read-clause-out : goal.returns-in-Ok-read-clause-out
returns-in-Ok-read-clause-out g c =
    let content = g.F.Files.content c.args.files.now in
    let trace = c.in-Ok-read.trace in
    let came = change g.O.Sink.told g.O.Sink.faults c.args.out.now c.run_read.new.out in
    rw c.run_outcome.ensures
    (leaves_ran (λ ended. Holds content c.args.trace.now (λ i. RunsBy (language_of c.args.form) c.args.text.now i came ended)) came c.run_read.result (
      trace.items,
      held_read content c.args.trace.now TRACE_BYTES trace c.in-Ok-read.ensures.bytes,
      c.run_read.ensures c.args.text.now c.in-Ok.ensures.reads,
    ))

pub returns-in-Err-clause-long_trace : goal.returns-in-Err-clause-long_trace
returns-in-Err-clause-long_trace g c =
    rw c.unread.ensures (long_trace_unread (g.F.Files.content c.args.files.now) c.args.trace.now c.in-Err.fault c.in-Err.ensures.bytes)
