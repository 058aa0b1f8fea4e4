use Rattle.std.proofs.Common.{◌≡◌, ◌++◌, map, take}
use Rattle.blif_read.proofs.drivers.push_names.Given as goal

abbrev pub invariant-loop-name : goal.invariant-loop-name
invariant-loop-name l =
    map (λ w. w.now) l.names.items ≡ map (λ w. w.now) l.fn.names.items ++ take l.name-index l.more
