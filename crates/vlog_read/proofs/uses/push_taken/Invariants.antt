use Rattle.std.proofs.Common.{◌≡◌, ◌++◌, map, take}
use Rattle.vlog_text.specs.Names.{Taken}
use Rattle.vlog_read.specs.NameTests.{use_of}
use Rattle.vlog_read.proofs.uses.push_taken.Given as goal

abbrev pub invariant-loop-name : goal.invariant-loop-name
invariant-loop-name l =
    map use_of l.uses.items ≡ map use_of l.fn.uses.items ++ map Taken (map (λ w. w.now) (take l.name-index l.name-items))
