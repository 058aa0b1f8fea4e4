use Rattle.std.proofs.Common.{◌≡◌, drop, map}
use Rattle.cec_words.specs.Commands.{named}
use Rattle.cec_words.specs.Views.{plain_setting}
use Rattle.cec_words.proofs.steps.named.Given as goal

-- the word spells none of the options so far
abbrev pub invariant-loop-setting : goal.invariant-loop-setting
invariant-loop-setting l = named (map plain_setting l.options) l.word ≡ named (drop l.setting-index (map plain_setting l.options)) l.word
