use Rattle.std.proofs.Common.{◌≡◌, ℕ, ◌||◌, List, map, take, drop}
use Rattle.std.specs.HashSet.{contains_by}
use Rattle.base_types.specs.Names.{is_same_name}
use Rattle.net_ir.specs.NameLists.{is_among}
use Rattle.net_expressions.specs.NameTables.{again_from}
use Rattle.net_expressions.proofs.tables.name_table.Given as goal

-- none stood again so far, and the table has the names so far
abbrev pub invariant-loop-name : goal.invariant-loop-name
invariant-loop-name l = record {
  once : again_from (λ n. contains_by (λ k. is_same_name n k.now) l.before) (map (λ w. w.now) l.names)
      ≡ again_from (λ n. contains_by (λ k. is_same_name n k.now) l.table || contains_by (λ k. is_same_name n k.now) l.before)
      (drop l.name-index (map (λ w. w.now) l.names));
  members : (n : List ℕ) → contains_by (λ k. is_same_name n k.now) l.table ≡ is_among n (take l.name-index (map (λ w. w.now) l.names));
}
