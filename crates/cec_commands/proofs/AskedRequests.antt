-- What words ask for can be generated.
use Rattle.std.proofs.Common.{◌≡◌, ℕ, List, Some, None, subst}
use Rattle.std.specs.Prelude.{IfSome}
use Rattle.cec_words.specs.declared.asked.Asked.{Asked}
use Rattle.cec_words.specs.declared.asked.Asked.TheVariants as asks
use Rattle.cec_words.specs.Readings.{asked_by}
use Rattle.cec_words.proofs.Exports.{AsksWell, asks-well}
use Rattle.cec_commands.specs.Jobs.{request_asked}
use Rattle.cec_commands.specs.JobViews.{CanBeGenerated}

generated : (words : List (List ℕ)) (asked : Asked) → AsksWell asked → CanBeGenerated (request_asked words asked)
generated words (asks.Gen start branches None) well = record { some = well.0; few = well.1 }
generated words (asks.Gen start branches (Some instants)) well = record { some = well.0; few = well.1 }
generated words _ well = tt

pub asked-generated : (words : List (List ℕ)) (asked : Asked) → asked_by words ≡ Some asked → CanBeGenerated (request_asked words asked)
asked-generated words asked is = generated words asked (subst (λ o. IfSome o AsksWell) is (asks-well words))
