use Rattle.std.proofs.Common.{◌≡◌, ◌+◌, drop, map}
use Rattle.std.specs.Prelude.{option_and_then, option_map, None}
use Rattle.std.specs.String.{string_bytes}
use Rattle.cec_words.specs.Readings.{asked_once, gathered}
use Rattle.cec_words.specs.Slots.{extended}
use Rattle.cec_words.specs.Views.{plain_command, plain_setting}
use Rattle.cec_words.proofs.reading.given.Given as goal

-- the words ask for what is given so far and the words that are left ask for together
abbrev pub invariant-loop-k : goal.invariant-loop-k
invariant-loop-k l =
    option_and_then (asked_once (plain_command l.command)) (gathered (plain_command l.command) None 1 (map string_bytes l.words)) ≡
    option_and_then (λ rest. asked_once (plain_command l.command) (extended l.reader.given rest))
    (gathered (plain_command l.command) (option_map plain_setting l.reader.waiting) (l.k + 1) (drop l.k (map string_bytes l.words)))
