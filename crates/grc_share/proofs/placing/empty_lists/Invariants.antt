use Rattle.std.proofs.Common.{◌≡◌, [], length, map}
use Rattle.std.specs.Prelude.{All}
use Rattle.grc_share.proofs.placing.empty_lists.Given as goal

abbrev pub invariant-loop-made : goal.invariant-loop-made
invariant-loop-made l = (length l.lists.items ≡ l.made) × All (λ list. list ≡ []) (map (λ v. v.items) l.lists.items)
