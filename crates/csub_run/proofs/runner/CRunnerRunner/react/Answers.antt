use Rattle.std.proofs.Common.{sym, subst}
use Rattle.csub_run.specs.Runners.{outputs_shown}
use Rattle.csub_run.specs.Showing.{runner_shows}
use Rattle.csub_run.proofs.Showing.{answered}
use Rattle.run_over_traces.specs.Machines.{Answered}
use Rattle.csub_run.proofs.runner.CRunnerRunner.react.Goals as goal

pub returns-clause-answered : goal.returns-clause-answered
returns-clause-answered c =
    let new = c.call.new.self in
    subst (λ w. Answered runner_shows c.args.self.now c.args.inputs.now (record { present = outputs_shown new; word = w }) new) (sym c.word_of.ensures)
    (answered c.args.self.now new c.args.inputs.now c.call.result c.call.ensures)
