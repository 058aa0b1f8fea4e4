use Rattle.std.proofs.Common.{◌≡◌, ◌∙◌, map, refl, sym, subst}
use Rattle.base_types.specs.SinkChanges.{change}
use Rattle.base_types.proofs.Exports.{appends-nothing}
use Rattle.cec_opt_embed.specs.Faults.{IsTextNameFault}
use Rattle.cec_opt_embed.specs.Texts.{EmbedKeeps}
use Rattle.cec_opt_texts.specs.Related.{named_relation}
use Rattle.cec_opt_commands.specs.Answers.{IsAnswer}
use Rattle.cec_opt_commands.specs.Words.{Embed}
use Rattle.cec_opt_commands.specs.declared.outcome.OptOutcome.TheVariants.{BadComponent}
use Rattle.cec_opt_commands.proofs.Answers.{text_net}
use Rattle.cec_opt_commands.proofs.Outcomes.{unmade_leaves, unmade_says, written_says, written_text}
use Rattle.cec_opt_commands.proofs.embedded.embed_text.Goals as goal

pub returns-in-Ok-clause-says : goal.returns-in-Ok-clause-says
returns-in-Ok-clause-says g c =
    let text = c.args.text.now in
    let given = map named_relation c.args.given.now in
    let is = c.in-Ok.ensures.keeps.small.is in
    rw c.from.ensures
    (written_says (Embed c.args.component.now c.args.layout) given c.write_whole.result text
    (record { short = c.requires; net = is.small.small.made; of_text = text_net text given is.optimized is.small }))

pub returns-in-Ok-clause-out : goal.returns-in-Ok-clause-out
returns-in-Ok-clause-out g c =
    let component = c.args.component.now in
    let text = c.args.text.now in
    let given = map named_relation c.args.given.now in
    rw c.from.ensures
    (written_text (λ written. written ≡ c.deref.result.now) (IsAnswer (Embed component c.args.layout) text given)
    (change g.O.Sink.told g.O.Sink.faults c.args.out.now c.write_whole.new.out) c.write_whole.result
    (λ written is. subst (EmbedKeeps text given component c.args.layout) (sym (is ∙ c.deref.ensures.value)) c.in-Ok.ensures.keeps) c.write_whole.ensures)

pub returns-in-Err-clause-says : goal.returns-in-Err-clause-says
returns-in-Err-clause-says g c =
    let component = c.args.component.now in
    let text = c.args.text.now in
    let given = map named_relation c.args.given.now in
    rw c.from-in-Err.ensures
    (unmade_says (Embed component c.args.layout) given BadComponent (IsTextNameFault text given component) c.in-Err.stop text c.requires
    (λ fault is. (c.requires, is)) c.in-Err.ensures.fault)

pub returns-in-Err-clause-out : goal.returns-in-Err-clause-out
returns-in-Err-clause-out g c =
    let component = c.args.component.now in
    rw c.from-in-Err.ensures
    (unmade_leaves (Embed component c.args.layout) (IsAnswer (Embed component c.args.layout) c.args.text.now (map named_relation c.args.given.now)) BadComponent
    c.in-Err.stop (change g.O.Sink.told g.O.Sink.faults c.args.out.now c.args.out.now) (λ fault. refl)
    (appends-nothing (g.O.Sink.told c.args.out.now) (g.O.Sink.faults c.args.out.now)))
