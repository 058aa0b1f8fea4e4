-- Contract: what is said of a call that ended early.
use Rattle.std.specs.Prelude.{⊤, Result, Ok, Err}
use Rattle.base_types.specs.declared.stop.Stop.{Stop}
use Rattle.base_types.specs.declared.stop.Stop.TheVariants.{Fault, NoMemory}

-- the fault of a call is such; out of memory has no cause
abbrev pub FaultIs : {F : Type 0} → (F → Type 0) → Stop F → Type 0
FaultIs P (Fault fault) = P fault
FaultIs P NoMemory = ⊤

-- where a call has a fault, it is such
abbrev pub IfFault : {T F : Type 0} → Result T (Stop F) → (F → Type 0) → Type 0
IfFault (Ok value) P = ⊤
IfFault (Err stop) P = FaultIs P stop
