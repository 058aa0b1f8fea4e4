use Rattle.std.specs.Prelude.{option_map}
use Rattle.std.specs.String.{string_bytes}
use Rattle.std.proofs.Common.{◌≡◌, None, drop, map}
use Rattle.cec_opt_commands.specs.Resets.{wanted_by}
use Rattle.cec_opt_commands.specs.Views.{wanted_is}
use Rattle.cec_opt_commands.proofs.resets.wanted_by.Given as goal

abbrev pub invariant-loop-word : goal.invariant-loop-word
invariant-loop-word l =
    wanted_by (wanted_is l.with) (option_map (λ k. k.now) l.key) (map string_bytes (drop l.word-index l.words))
    ≡ wanted_by (wanted_is l.wanted) None (map string_bytes l.words)
