-- Inner: what is found of the names of an interface.
use Rattle.std.specs.Prelude.{◌≡◌, ℕ, List, find, Some, None}
use Rattle.net_ir.specs.NameLists.{first_again}
use Rattle.vlog_reset.specs.Names.{is_reserved}
use Rattle.vlog_reset.specs.declared.fault.ResetFault.{ResetFault}
use Rattle.vlog_reset.specs.declared.fault.ResetFault.TheVariants as faults

-- none is a word of Verilog, and none is one of those before or stands twice
pub record AreFit (before names : List (List ℕ)) : Type 0 where
  pub free : find is_reserved names ≡ None
  pub once : first_again before names ≡ None

-- or the first fault of theirs
abbrev pub IsNamesFault : List (List ℕ) → List (List ℕ) → ResetFault → Type 0
IsNamesFault before names faults.NoModule = ⊥
IsNamesFault before names faults.NoReset = ⊥
IsNamesFault before names (faults.Reserved word) = find is_reserved names ≡ Some word
IsNamesFault before names (faults.Twice name) =
    (find is_reserved names ≡ None) × (first_again before names ≡ Some name)
