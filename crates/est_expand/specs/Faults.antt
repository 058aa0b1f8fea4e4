-- To believe: why a program has no flat form.
use Rattle.std.specs.Prelude.{ℕ, List}
use Rattle.base_types.specs.declared.place.Span.{Span}

pub data FlattenFault : Type 0 where
  -- at the name of a `run`: no module has it
  UnknownModule : (place : Span) → FlattenFault
  -- at the name of a `run`: it leads back to a module that it is in; the names from the main module to that one
  Recursive : (place : Span) (names : List (List ℕ)) → FlattenFault
  -- at a formal: the module does not show it, or it was renamed before
  BadRename : (place : Span) → FlattenFault
  -- at a name that nothing around it declares
  UnknownSignal : (place : Span) → FlattenFault
  -- at the name of a `run`: a formal that is not renamed, and whose name is not visible at the `run`
  Unbound : (place : Span) (formal : List ℕ) → FlattenFault
  -- at the name of an `exit` that is in no such trap of its module, or of a `handle` that is not its trap's
  UnknownTrap : (place : Span) → FlattenFault
  -- at a name that is emitted and means an input of its module or of the main module
  EmitInput : (place : Span) → FlattenFault
  -- a limit is passed
  TooManyStatements : FlattenFault
  TooDeep : FlattenFault
  TooManySignals : FlattenFault
