use Rattle.std.proofs.Common.{◌≡◌, map, take}
use Rattle.vlog_read.specs.Sources.{next_of}
use Rattle.vlog_read.proofs.drivers.next_names.Given as goal

abbrev pub invariant-loop-next : goal.invariant-loop-next
invariant-loop-next l = map (λ w. w.now) l.names.items ≡ map (λ n. n.target) (map next_of (take l.next-index l.nexts))
