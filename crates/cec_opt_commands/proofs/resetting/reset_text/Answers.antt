use Rattle.std.proofs.Common.{◌≡◌, ◌∙◌, map, refl, sym, subst}
use Rattle.base_types.specs.SinkChanges.{change}
use Rattle.base_types.proofs.Exports.{appends-nothing}
use Rattle.vlog_reset.specs.Views.{options_of}
use Rattle.cec_opt_reset.specs.Faults.{IsTextModuleNameFault}
use Rattle.cec_opt_reset.specs.Texts.{ResetKeeps}
use Rattle.cec_opt_texts.specs.Related.{named_relation}
use Rattle.cec_opt_commands.specs.Answers.{IsAnswer}
use Rattle.cec_opt_commands.specs.Words.{Reset}
use Rattle.cec_opt_commands.specs.declared.outcome.OptOutcome.TheVariants.{BadModule}
use Rattle.cec_opt_commands.proofs.Answers.{text_net}
use Rattle.cec_opt_commands.proofs.Outcomes.{unmade_leaves, unmade_says, written_says, written_text}
use Rattle.cec_opt_commands.proofs.resetting.reset_text.Goals as goal

pub returns-in-Ok-clause-says : goal.returns-in-Ok-clause-says
returns-in-Ok-clause-says g c =
    let text = c.args.text.now in
    let given = map named_relation c.args.given.now in
    let keeps = c.in-Ok.ensures.keeps in
    rw c.from.ensures
    (written_says (Reset (options_of c.args.options) c.args.coding) given c.write_whole.result text
    (record { short = c.requires; net = keeps.small.small.made; of_text = text_net text given keeps.net keeps.small }))

pub returns-in-Ok-clause-out : goal.returns-in-Ok-clause-out
returns-in-Ok-clause-out g c =
    let options = options_of c.args.options in
    let text = c.args.text.now in
    let given = map named_relation c.args.given.now in
    rw c.from.ensures
    (written_text (λ written. written ≡ c.deref.result.now) (IsAnswer (Reset options c.args.coding) text given)
    (change g.O.Sink.told g.O.Sink.faults c.args.out.now c.write_whole.new.out) c.write_whole.result
    (λ written is. subst (ResetKeeps text given options) (sym (is ∙ c.deref.ensures.value)) c.in-Ok.ensures.keeps) c.write_whole.ensures)

pub returns-in-Err-clause-says : goal.returns-in-Err-clause-says
returns-in-Err-clause-says g c =
    let options = options_of c.args.options in
    let text = c.args.text.now in
    let given = map named_relation c.args.given.now in
    rw c.from-in-Err.ensures
    (unmade_says (Reset options c.args.coding) given BadModule (IsTextModuleNameFault text given options) c.in-Err.stop text c.requires
    (λ fault is. (c.requires, is)) c.in-Err.ensures.fault)

pub returns-in-Err-clause-out : goal.returns-in-Err-clause-out
returns-in-Err-clause-out g c =
    let task = Reset (options_of c.args.options) c.args.coding in
    rw c.from-in-Err.ensures
    (unmade_leaves task (IsAnswer task c.args.text.now (map named_relation c.args.given.now)) BadModule c.in-Err.stop
    (change g.O.Sink.told g.O.Sink.faults c.args.out.now c.args.out.now) (λ fault. refl)
    (appends-nothing (g.O.Sink.told c.args.out.now) (g.O.Sink.faults c.args.out.now)))
