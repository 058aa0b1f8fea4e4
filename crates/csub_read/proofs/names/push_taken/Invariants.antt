use Rattle.std.proofs.Common.{◌≡◌, ◌++◌, map, take}
use Rattle.csub_text.specs.Names.{Taken}
use Rattle.csub_read.specs.NameTests.{use_of}
use Rattle.csub_read.proofs.names.push_taken.Given as goal

abbrev pub invariant-loop-name : goal.invariant-loop-name
invariant-loop-name l =
    map use_of l.uses.items ≡ map use_of l.fn.uses.items ++ map Taken (map (λ w. w.now) (take l.name-index l.name-items))
