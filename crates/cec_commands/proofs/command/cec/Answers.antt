use Rattle.cec_commands.specs.Subjects.{plain_subject}
use Rattle.cec_commands.proofs.OneFile.{err_usage}
use Rattle.cec_commands.proofs.command.cec.Goals as goal

pub returns-in-None-clause-err : goal.returns-in-None-clause-err
returns-in-None-clause-err g c = err_usage _ _ (plain_subject c.subject_of_none.result) _ _ _ _ c.in-None.ensures.asked c.report.ensures
