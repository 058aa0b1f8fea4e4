use Rattle.std.proofs.Common.{◌≡◌, ◌++◌, map, take}
use Rattle.csub_guard.specs.Names.{Taken}
use Rattle.csub_guard_read.specs.Uses.{place_of, use_of}
use Rattle.csub_guard_read.proofs.uses.push_taken.Given as goal

abbrev pub invariant-loop-name : goal.invariant-loop-name
invariant-loop-name l =
    map use_of l.uses.items
    ≡ map use_of l.fn.uses.items ++ map (λ n. Taken n (place_of l.place)) (map (λ w. w.now) (take l.name-index l.name-items))
