use Rattle.std.proofs.Common.{◌≡◌, ◌++◌, map, take}
use Rattle.est_names.specs.Names.{texts}
use Rattle.est_expand.proofs.interface.push_texts.Given as goal

abbrev pub invariant-loop-name : goal.invariant-loop-name
invariant-loop-name l =
    map (λ name. name.now) l.found.items ≡ map (λ name. name.now) l.fn.found.items ++ texts (take l.name-index l.names)
