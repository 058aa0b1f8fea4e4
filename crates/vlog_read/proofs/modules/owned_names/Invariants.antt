use Rattle.std.proofs.Common.{◌≡◌, map, take}
use Rattle.vlog_read.proofs.modules.owned_names.Given as goal

abbrev pub invariant-loop-name : goal.invariant-loop-name
invariant-loop-name l = l.owned.items ≡ map (λ w. w.now) (take l.name-index l.name-items)
