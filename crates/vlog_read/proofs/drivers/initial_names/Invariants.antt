use Rattle.std.proofs.Common.{◌≡◌, map, take}
use Rattle.vlog_read.specs.Sources.{initial_of}
use Rattle.vlog_read.proofs.drivers.initial_names.Given as goal

abbrev pub invariant-loop-initial : goal.invariant-loop-initial
invariant-loop-initial l = map (λ w. w.now) l.names.items ≡ map (λ i. i.name) (map initial_of (take l.initial-index l.initials))
