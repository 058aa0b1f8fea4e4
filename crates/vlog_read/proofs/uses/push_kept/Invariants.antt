use Rattle.std.proofs.Common.{◌≡◌, ◌++◌, map, take}
use Rattle.vlog_text.specs.Names.{Kept}
use Rattle.vlog_read.specs.NameTests.{use_of}
use Rattle.vlog_read.specs.Sources.{initial_of}
use Rattle.vlog_read.proofs.uses.push_kept.Given as goal

abbrev pub invariant-loop-initial : goal.invariant-loop-initial
invariant-loop-initial l =
    map use_of l.uses.items ≡ map use_of l.fn.uses.items ++ map (λ i. Kept i.name) (map initial_of (take l.initial-index l.initials))
