use Rattle.std.proofs.Common.{map, ap, ◌∙◌, subst}
use Rattle.std.specs.String.{string_bytes}
use Rattle.base_types.proofs.Exports.{appends-nothing}
use Rattle.base_types.specs.SinkChanges.{change}
use Rattle.base_types.specs.declared.stop.Stop.TheVariants.{NoMemory}
use Rattle.cec_opt_texts.specs.Related.{named_relation}
use Rattle.cec_opt_commands.specs.Answers.{IsAnswer}
use Rattle.cec_opt_commands.specs.Outcomes.{LeavesAnswer, SaysOf}
use Rattle.cec_opt_commands.specs.Relations.{given_by}
use Rattle.cec_opt_commands.specs.Views.{plain_task}
use Rattle.cec_opt_commands.proofs.Outcomes.{stop_leaves}
use Rattle.cec_opt_commands.proofs.texts.do_task.Goals as goal

pub returns-in-Ok-clause-says : goal.returns-in-Ok-clause-says
returns-in-Ok-clause-says g c =
    subst (λ given. SaysOf (plain_task c.args.task) given c.do_task_under.result c.args.text.now)
    (ap (map named_relation) c.deref.ensures.value ∙ c.in-Ok.ensures) c.do_task_under.ensures.says

pub returns-in-Ok-clause-out : goal.returns-in-Ok-clause-out
returns-in-Ok-clause-out g c =
    let task = plain_task c.args.task in
    let s = change g.O.Sink.told g.O.Sink.faults c.args.out.now c.do_task_under.new.out in
    subst (λ given. LeavesAnswer task (IsAnswer task c.args.text.now given) s c.do_task_under.result)
    (ap (map named_relation) c.deref.ensures.value ∙ c.in-Ok.ensures) c.do_task_under.ensures.out

pub returns-in-Err-clause-out : goal.returns-in-Err-clause-out
returns-in-Err-clause-out g c =
    let task = plain_task c.args.task in
    stop_leaves task (IsAnswer task c.args.text.now (given_by (map string_bytes c.args.given.now))) NoMemory
    (change g.O.Sink.told g.O.Sink.faults c.args.out.now c.args.out.now)
    (appends-nothing (g.O.Sink.told c.args.out.now) (g.O.Sink.faults c.args.out.now))
