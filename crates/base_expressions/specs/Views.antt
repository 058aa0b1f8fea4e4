-- Inner: the plain form of what begins a part, and what code returned of its tokens, held against a reading function on
-- their plain forms.
use Rattle.std.specs.Prelude.{◌≡◌, List, map, Option, Some, None, Ok, Err, Result}
use Rattle.std.specs.Borrow.{Bor}
use Rattle.base_expressions.specs.Reading.{Opening, Negates, Opens, IsLeaf}
use Rattle.base_expressions.specs.declared.language.Opening.{Opening as CodeOpening}
use Rattle.base_expressions.specs.declared.language.Opening.TheVariants as openings
use Rattle.base_reader.specs.declared.faults.ReadError.{ReadError}
use Rattle.base_reader.specs.declared.faults.ReadError.TheVariants as errors
use Rattle.base_reader.specs.Readings.{Read}

-- what begins a part, as code knows it: a leaf is made of its token
abbrev pub opening_in : {B F : Type 0} → Option (Opening B F) → Option (CodeOpening B)
opening_in None = None
opening_in (Some Negates) = Some openings.Not
opening_in (Some (Opens bracket)) = Some (openings.Open bracket)
opening_in (Some (IsLeaf leaf)) = Some openings.Leaf

-- what code returned of its tokens, seen by a view, is what a function answers on their plain forms, unless memory ran
-- out
abbrev pub FindsBy : {K P X Y : Type 0} → (K → P) → (X → Y) → Result (X × Bor (List K)) ReadError → Read P Y → Type 0
FindsBy plain view (Ok found) read = read ≡ Ok (view found.0, map plain found.1.now)
FindsBy plain view (Err (errors.Fault fault)) read = read ≡ Err fault
FindsBy plain view (Err errors.NoMemory) read = Unit {0}
