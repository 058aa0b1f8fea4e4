use Rattle.cec_commands.proofs.TwoFiles.{exec_agrees_unread}
use Rattle.cec_commands.proofs.commands.exec.exec_file.Goals as goal

pub returns-in-Err-clause-agrees : goal.returns-in-Err-clause-agrees
returns-in-Err-clause-agrees g c =
    rw c.unread.ensures
    (exec_agrees_unread (g.F.Files.content c.args.files.now) c.args.via c.args.text.now c.args.trace.now c.in-Err.fault c.in-Err.ensures.bytes)
