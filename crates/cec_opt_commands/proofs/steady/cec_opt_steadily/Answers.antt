use Rattle.cec_opt_commands.proofs.Accepting.{steady_end}
use Rattle.cec_opt_commands.proofs.steady.cec_opt_steadily.Goals as goal

pub returns-clause-ends : goal.returns-clause-ends
returns-clause-ends g c = λ request is accepted.
    steady_end _ request _ c.cec_opt.result _ _ is accepted c.cec_opt.ensures.agrees c.cec_opt.ensures.files_counted c.cec_opt.ensures.out
