use Rattle.csub_guard_writer_laws.proofs.GuardedTexts.{guarded_texts_run_lem}
use Rattle.csub_guard_writer_laws.proofs.laws.guarded_texts_run.Goals as goal

pub returns : goal.returns
returns c = guarded_texts_run_lem
