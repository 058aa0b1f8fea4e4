use Rattle.std.proofs.Common.{◌≡◌, ◌≤◌, ℕ, List, length, map, drop}
use Rattle.std.specs.HashMap.{get_by}
use Rattle.base_types.specs.Names.{is_same_name}
use Rattle.vlog_text.specs.Texts.{next_source}
use Rattle.vlog_read.specs.Registers.{source_or}
use Rattle.vlog_read.specs.Sources.{next_of}
use Rattle.vlog_read.proofs.modules.next_sources.Given as goal

-- the table has the sources of the last ones
abbrev pub invariant-nexts : goal.invariant-nexts
invariant-nexts l = record {
  within : l.left ≤ length l.nexts;
  sources : (n : List ℕ) → source_or (get_by (λ k. is_same_name n k.now) l.sources) ≡ next_source (map next_of (drop l.left l.nexts)) n;
}

abbrev pub decreases-nexts : goal.decreases-nexts
decreases-nexts l = l.left
