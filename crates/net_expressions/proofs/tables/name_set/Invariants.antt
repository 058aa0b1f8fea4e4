use Rattle.std.proofs.Common.{◌≡◌, ℕ, List, map, take}
use Rattle.std.specs.HashSet.{contains_by}
use Rattle.base_types.specs.Names.{is_same_name}
use Rattle.net_ir.specs.NameLists.{is_among}
use Rattle.net_expressions.proofs.tables.name_set.Given as goal

-- the set has the names so far
abbrev pub invariant-loop-name : goal.invariant-loop-name
invariant-loop-name l =
    (n : List ℕ) → contains_by (λ k. is_same_name n k.now) l.set ≡ is_among n (take l.name-index (map (λ w. w.now) l.names))
