use Rattle.cec_commands.proofs.Accepting.{steady_end}
use Rattle.cec_commands.proofs.steady.cec_steadily.Goals as goal

pub returns-clause-ends : goal.returns-clause-ends
returns-clause-ends g c = λ request is accepted.
    steady_end _ request _ c.cec.result _ _ is accepted c.cec.ensures.agrees c.cec.ensures.files_counted c.cec.ensures.out
