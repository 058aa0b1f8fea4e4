use Rattle.std.proofs.Common.{◌≡◌, ℕ, List, [], map, take, drop}
use Rattle.std.specs.HashSet.{contains_by}
use Rattle.base_types.specs.Names.{is_same_name}
use Rattle.net_ir.specs.NameLists.{is_among, first_again}
use Rattle.csub_read.proofs.names.name_set.Given as goal

-- no name stands twice so far, and the set has those so far
abbrev pub invariant-loop-name : goal.invariant-loop-name
invariant-loop-name l = record {
  once : first_again [] (map (λ w. w.now) l.names)
      ≡ first_again (take l.name-index (map (λ w. w.now) l.names)) (drop l.name-index (map (λ w. w.now) l.names));
  members : (name : List ℕ) → contains_by (λ k. is_same_name name k.now) l.set ≡ is_among name (take l.name-index (map (λ w. w.now) l.names));
}
