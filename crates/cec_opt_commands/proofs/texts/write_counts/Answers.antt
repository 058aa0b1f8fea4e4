use Rattle.std.proofs.Common.{◌≡◌, ◌∙◌, map, sym, subst}
use Rattle.base_types.specs.SinkChanges.{change}
use Rattle.base_types.proofs.Exports.{appends-nothing}
use Rattle.cec_opt_texts.specs.Related.{named_relation}
use Rattle.cec_opt_commands.specs.Answers.{IsAnswer, TellsText}
use Rattle.cec_opt_commands.specs.Words.{Check}
use Rattle.cec_opt_commands.proofs.Outcomes.{written_says, written_text, stop_says, stop_leaves}
use Rattle.cec_opt_commands.proofs.texts.write_counts.Goals as goal

pub returns-in-Ok-clause-says : goal.returns-in-Ok-clause-says
returns-in-Ok-clause-says g c =
    let tells = c.in-Ok.ensures.lines in
    rw c.from.ensures
    (written_says Check (map named_relation c.args.given.now) c.write_whole.result c.args.text.now
    (record { short = c.requires; net = tells.net; of_text = tells.of_text }))

pub returns-in-Ok-clause-out : goal.returns-in-Ok-clause-out
returns-in-Ok-clause-out g c =
    rw c.from.ensures
    (written_text (λ written. written ≡ c.deref.result.now) (IsAnswer Check c.args.text.now (map named_relation c.args.given.now))
    (change g.O.Sink.told g.O.Sink.faults c.args.out.now c.write_whole.new.out) c.write_whole.result
    (λ written is. subst (TellsText c.args.text.now (map named_relation c.args.given.now)) (sym (is ∙ c.deref.ensures.value)) c.in-Ok.ensures.lines)
    c.write_whole.ensures)

pub returns-in-Err-clause-says : goal.returns-in-Err-clause-says
returns-in-Err-clause-says g c =
    rw c.from-in-Err.ensures
    (stop_says Check (map named_relation c.args.given.now) c.in-Err.stop c.args.text.now c.requires c.in-Err.ensures.fault)

pub returns-in-Err-clause-out : goal.returns-in-Err-clause-out
returns-in-Err-clause-out g c =
    rw c.from-in-Err.ensures
    (stop_leaves Check (IsAnswer Check c.args.text.now (map named_relation c.args.given.now)) c.in-Err.stop
    (change g.O.Sink.told g.O.Sink.faults c.args.out.now c.args.out.now)
    (appends-nothing (g.O.Sink.told c.args.out.now) (g.O.Sink.faults c.args.out.now)))
