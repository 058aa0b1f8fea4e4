-- Inner: what code returned, held against a reading function.
use Rattle.std.specs.Prelude.{◌≡◌, List, Option, Result, Ok, Err}
use Rattle.std.specs.Option.{option_map}
use Rattle.std.specs.Borrow.{Bor}
use Rattle.base_reader.specs.declared.faults.Fault.{Fault}
use Rattle.base_reader.specs.declared.faults.ReadError.{ReadError}
use Rattle.base_reader.specs.declared.faults.ReadError.TheVariants as errors
use Rattle.base_reader.specs.Readings.{Read, picked}

-- what code returned, seen by a view, is what a function answers, unless memory ran out
abbrev pub Gives : {X Y : Type 0} → (X → Y) → Result X ReadError → Result Y Fault → Type 0
Gives view (Ok found) answer = answer ≡ Ok (view found)
Gives view (Err (errors.Fault fault)) answer = answer ≡ Err fault
Gives view (Err errors.NoMemory) answer = Unit {0}

-- the same where the tokens that are left are answered beside the value
abbrev pub Finds : {T X Y : Type 0} → (X → Y) → Result (X × Bor (List T)) ReadError → Read T Y → Type 0
Finds view result read = Gives (λ found. (view found.0, found.1.now)) result read

-- code that looks whether a test takes the next token: the tokens after it, or nothing
abbrev pub Passes : {T : Type 0} → (T → Option (Unit {0})) → List T → Option (Bor (List T)) → Type 0
Passes test tokens result = picked test tokens ≡ option_map (λ rest. (tt, rest.now)) result
