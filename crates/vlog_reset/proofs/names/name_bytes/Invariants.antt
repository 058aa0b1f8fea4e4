use Rattle.std.proofs.Common.{◌≡◌, map, take}
use Rattle.vlog_reset.proofs.names.name_bytes.Given as goal

-- those so far are there
abbrev pub invariant-loop-name : goal.invariant-loop-name
invariant-loop-name l = map (λ w. w.now) l.words.items ≡ take l.name-index l.names
