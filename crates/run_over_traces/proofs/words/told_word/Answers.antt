use Rattle.std.proofs.Common.{sym, ap, ◌∙◌}
use Rattle.run_over_traces.specs.Languages.{word_of}
use Rattle.run_over_traces.proofs.Pauses.{bare-word, last-word}
use Rattle.run_over_traces.proofs.words.told_word.Goals as goal

pub returns-then-not-tells_pause : goal.returns-then-not-tells_pause
returns-then-not-tells_pause c =
    bare-word c.args.paused.now c.args.outputs.now c.args.values.now (sym c.tells_pause.ensures ∙ c.if-not-tells_pause.true)

pub returns : goal.returns
returns c =
    last-word c.args.paused.now c.args.outputs.now c.args.values.now c.word_of.result (sym c.tells_pause.ensures ∙ c.if-not-tells_pause.false) c.requires
    (c.word_of.ensures ∙ ap word_of c.last_value.ensures)
