use Rattle.est_kernel.proofs.ExitLaws.{step_keeps_exits_lem}
use Rattle.est_kernel.proofs.RunLaws.{run_pauses_or_ends_lem}
use Rattle.est_kernel.proofs.laws.exits_stay_in_traps.Goals as goal

pub returns : goal.returns
returns c = record { step = step_keeps_exits_lem; run = run_pauses_or_ends_lem }
