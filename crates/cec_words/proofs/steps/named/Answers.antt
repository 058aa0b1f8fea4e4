use Rattle.std.proofs.Common.{sym, ◌∙◌}
use Rattle.cec_words.proofs.Options.{named-found, named-passed}
use Rattle.cec_words.proofs.steps.named.Goals as goal

pub returns-in-Some-clause-spelling : goal.returns-in-Some-clause-spelling
returns-in-Some-clause-spelling c =
    sym (c.loop-setting.invariant ∙ named-found c.args.options.now c.args.word.now c.loop-setting.setting-index c.loop-setting-test.true
    c.spelling_of.result c.spelling_of.ensures.spelling c.in-Some.spelling c.in-Some.is)

pub loop-setting-preserved : goal.loop-setting-preserved
loop-setting-preserved c =
    c.loop-setting.invariant ∙ named-passed c.args.options.now c.args.word.now c.loop-setting.setting-index c.loop-setting-test.true
    c.spelling_of.result c.spelling_of.ensures.spelling c.in_default.not-Some
