use Rattle.std.proofs.Common.{◌≡◌, ◌≤◌, ℕ, List, length, map, drop}
use Rattle.std.specs.HashMap.{get_by}
use Rattle.base_types.specs.Names.{is_same_name}
use Rattle.vlog_text.specs.Texts.{initial_value}
use Rattle.vlog_read.specs.Registers.{value_or}
use Rattle.vlog_read.specs.Sources.{initial_of}
use Rattle.vlog_read.proofs.modules.initial_values.Given as goal

-- the table has the values of the last ones
abbrev pub invariant-initials : goal.invariant-initials
invariant-initials l = record {
  within : l.left ≤ length l.initials;
  values : (n : List ℕ) → value_or (get_by (λ k. is_same_name n k.now) l.values) ≡ initial_value (map initial_of (drop l.left l.initials)) n;
}

abbrev pub decreases-initials : goal.decreases-initials
decreases-initials l = l.left
