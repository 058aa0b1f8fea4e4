use Rattle.est_kernel.proofs.CodeLaws.{step_keeps_static_codes_lem}
use Rattle.est_kernel.proofs.StepLaws.{step_is_what_must_be_done_lem}
use Rattle.est_kernel.proofs.laws.steps_follow_potentials.Goals as goal

pub returns : goal.returns
returns c = record { just = step_is_what_must_be_done_lem; code = step_keeps_static_codes_lem }
