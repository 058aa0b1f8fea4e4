-- Inner: the faults of names, one after another.
use Rattle.std.specs.Prelude.{◌≡◌, ℕ, false, List, [], Some, IsTrue}
use Rattle.base_types.specs.Names.{is_name}
use Rattle.net_ir.specs.NameLists.{first_again}
use Rattle.blif_read.specs.declared.fault.BlifFault.{BlifFault}
use Rattle.blif_read.specs.declared.fault.BlifFault.TheVariants.{Model, Input, Output, Again}
use Rattle.blif_net.specs.Interfaces.{IsFirstWithout, HasName}

abbrev pub IsModel : List ℕ → BlifFault → Type 0
IsModel name (Model found) = (name ≡ found) × (is_name found ≡ false)
IsModel name others = ⊥

abbrev pub IsInput : List (List ℕ) → BlifFault → Type 0
IsInput inputs (Input found) = IsFirstWithout (λ input. IsTrue (is_name input)) inputs found
IsInput inputs others = ⊥

abbrev pub IsOutput : List (List ℕ) → List (List ℕ) → BlifFault → Type 0
IsOutput inputs words (Output found) = IsFirstWithout (HasName inputs) words found
IsOutput inputs words others = ⊥

abbrev pub IsAgain : List (List ℕ) → BlifFault → Type 0
IsAgain words (Again found) = first_again [] words ≡ Some found
IsAgain words others = ⊥
