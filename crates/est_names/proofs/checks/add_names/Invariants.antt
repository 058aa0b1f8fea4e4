use Rattle.std.proofs.Common.{◌≡◌, ℕ, List, ◌++◌, take}
use Rattle.est_names.specs.Names.{texts, is_among}
use Rattle.est_names.proofs.checks.add_names.Given as goal

abbrev pub invariant-loop-name : goal.invariant-loop-name
invariant-loop-name l =
    (name : List ℕ) → is_among name l.set ≡ is_among name (l.fn.set ++ texts (take l.name-index l.names))
