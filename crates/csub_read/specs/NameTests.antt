-- Inner: tests of names as the code makes them, and what a fault of names says.
use Rattle.std.specs.Prelude.{◌≡◌, ℕ, Bool, not, ◌||◌, List, [], Option, Some, find}
use Rattle.csub_text.specs.Grammar.{begins_input}
use Rattle.csub_text.specs.Trees.{Program}
use Rattle.net_ir.specs.NameLists.{first_again}
use Rattle.csub_text.specs.Names.{Use, Assigned, Taken, used_name, Twice, Undeclared, Unset}
use Rattle.csub_text.specs.Names.{name_fault}
use Rattle.csub_read.specs.declared.names.Use.{Use as CodeUse}
use Rattle.csub_read.specs.declared.names.Use.TheVariants as places
use Rattle.csub_read.specs.declared.refusal.CFault.{CFault}
use Rattle.csub_read.specs.declared.refusal.CFault.TheVariants as faults

abbrev pub use_of : CodeUse → Use
use_of (places.Assigned name) = Assigned name.now
use_of (places.Taken name) = Taken name.now

-- a name that is none of the known ones, or an input that is assigned
abbrev pub wrong_use : (List ℕ → Bool) → Use → Bool
wrong_use known (Assigned name) = begins_input name || not (known name)
wrong_use known (Taken name) = not (known name)

abbrev pub NamesFault : Program → CFault → Type 0
NamesFault p (faults.Twice name) = name_fault p ≡ Some (Twice name)
NamesFault p (faults.Undeclared name) = name_fault p ≡ Some (Undeclared name)
NamesFault p (faults.Unset name) = name_fault p ≡ Some (Unset name)
NamesFault p others = ⊥

abbrev pub AgainFault : List (List ℕ) → CFault → Type 0
AgainFault names (faults.Twice name) = first_again [] names ≡ Some name
AgainFault names others = ⊥

abbrev pub UseFault : (Use → Bool) → List Use → CFault → Type 0
UseFault wrong uses (faults.Undeclared name) = (found : Use) × (find wrong uses ≡ Some found) × (used_name found ≡ name)
UseFault wrong uses others = ⊥

abbrev pub UnsetFault : Option (List ℕ) → CFault → Type 0
UnsetFault found (faults.Unset name) = found ≡ Some name
UnsetFault found others = ⊥
