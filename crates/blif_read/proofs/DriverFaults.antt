-- The fault of the drivers.
use Rattle.std.proofs.Common.{◌≡◌, ℕ, Bool, List, sym, ◌∙◌, None, Result, Ok, Err}
use Rattle.std.specs.Prelude.{find}
use Rattle.base_types.specs.declared.stop.Stop.{Stop}
use Rattle.base_types.specs.declared.stop.Stop.TheVariants.{Fault, NoMemory}
use Rattle.base_types.specs.Stops.{IfFault}
use Rattle.blif_read.specs.declared.fault.BlifFault.{BlifFault}
use Rattle.blif_read.specs.declared.fault.BlifFault.TheVariants.{NoDriver}
use Rattle.blif_text.specs.Statements.{Statement}
use Rattle.blif_text.specs.Circuits.{driven_again, not_driven}
use Rattle.blif_read.specs.PlainStatements.{FoundFault, DriverFault}

-- the fault of the drivers, where the test says which names are lacking
pub DriverFault-found : {T : Type 0} (ss : List Statement) (test : List ℕ → Bool) (used : List (List ℕ)) → driven_again ss ≡ None
    → find test used ≡ not_driven ss → (r : Result T (Stop BlifFault)) → IfFault r (FoundFault test used) → IfFault r (DriverFault ss)
DriverFault-found ss test used once same (Ok x) found = tt
DriverFault-found ss test used once same (Err (Fault (NoDriver name))) found = (once, sym same ∙ found)
DriverFault-found ss test used once same (Err (Fault _)) found = absurd found
DriverFault-found ss test used once same (Err NoMemory) found = tt
