-- To believe: what a call answers, by what is defined: the same value, or the same fault. `NoMemory` fits any result.
use Rattle.std.specs.Prelude.{◌≡◌, Option, Some, None, Result, Ok, Err}
use Rattle.est_expand.specs.declared.refusal.ExpandFault.{ExpandFault}
use Rattle.est_expand.specs.declared.refusal.ExpandFault.TheVariants as code
use Rattle.est_expand.specs.declared.refusal.ScopeFault.{ScopeFault}
use Rattle.est_expand.specs.declared.refusal.ScopeFault.TheVariants as scope
use Rattle.est_expand.specs.Faults.{FlattenFault, UnknownModule, Recursive, BadRename, UnknownSignal, Unbound}
use Rattle.est_expand.specs.Faults.{UnknownTrap}
use Rattle.est_expand.specs.Faults.{EmitInput, TooManyStatements, TooDeep, TooManySignals}

abbrev pub scope_fault : ScopeFault → FlattenFault
scope_fault (scope.UnknownModule place) = UnknownModule place
scope_fault (scope.Recursive place names) = Recursive place names.items
scope_fault (scope.BadRename place) = BadRename place
scope_fault (scope.UnknownSignal place) = UnknownSignal place
scope_fault (scope.Unbound place formal) = Unbound place formal
scope_fault (scope.UnknownTrap place) = UnknownTrap place
scope_fault (scope.EmitInput place) = EmitInput place

abbrev pub fault_of : ExpandFault → Option FlattenFault
fault_of (code.Scope fault) = Some (scope_fault fault)
fault_of code.TooManyStatements = Some TooManyStatements
fault_of code.TooDeep = Some TooDeep
fault_of code.TooManySignals = Some TooManySignals
fault_of code.NoMemory = None

abbrev pub AnswersAsDefined : {A B : Type 0} → (A → B) → Result A ExpandFault → Result B FlattenFault → Type 0
AnswersAsDefined view (Ok value) defined = defined ≡ Ok (view value)
AnswersAsDefined view (Err error) defined = (fault : FlattenFault) → fault_of error ≡ Some fault → defined ≡ Err fault
