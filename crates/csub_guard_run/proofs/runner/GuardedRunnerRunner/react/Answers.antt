use Rattle.std.proofs.Common.{sym, subst}
use Rattle.csub_guard_run.specs.Runners.{outputs_shown}
use Rattle.csub_guard_run.specs.Showing.{counter_shows}
use Rattle.csub_guard_run.proofs.Showing.{answered, call_passes}
use Rattle.run_over_traces.specs.Machines.{Answered}
use Rattle.csub_guard_run.proofs.runner.GuardedRunnerRunner.react.Goals as goal

pub returns-clause-answered : goal.returns-clause-answered
returns-clause-answered c =
    let new = c.call.new.self in
    subst (λ w. Answered counter_shows c.args.self.now c.args.inputs.now (record { present = outputs_shown new.calls; word = w }) new) (sym c.word_of.ensures)
    (answered c.args.self.now new c.args.inputs.now c.call.result c.call.ensures.reacts)

pub returns-clause-passes : goal.returns-clause-passes
returns-clause-passes c =
    call_passes c.args.self.now c.call.new.self c.args.inputs.now c.call.result c.call.ensures.reacts c.call.ensures.sum c.call.ensures.small
