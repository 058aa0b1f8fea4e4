use Rattle.csub_guard_run.proofs.Showing.{new-shows}
use Rattle.csub_guard_run.proofs.language.GuardedTextsLanguage.read.Goals as goal

pub returns-clause-shows : goal.returns-clause-shows
returns-clause-shows c = new-shows c.read_machine.result c.read_machine.ensures.fresh
