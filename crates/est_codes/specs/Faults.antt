-- To believe: when a body is refused, and for which of its loops.
use Rattle.std.specs.Prelude.{◌≡◌, ◌≤◌, List, [], Option, Some, None, All, Contains, ⊤}
use Rattle.base_types.specs.declared.place.Span.{Span}
use Rattle.est_codes.specs.declared.refusal.CodeFault.{CodeFault}
use Rattle.est_codes.specs.declared.refusal.CodeFault.TheVariants.{InstantLoop, NoMemory}

-- a place is not after another: places go by their start, and those of one start by their end
pub record IsNotAfter (a b : Span) : Type 0 where
  pub start : a.start ≤ b.start
  pub end : a.start ≡ b.start → a.end ≤ b.end

-- a place of the list that is not after any of them; no place, where the list has none
abbrev pub IsLeastSpan : Option Span → List Span → Type 0
IsLeastSpan None places = places ≡ []
IsLeastSpan (Some a) places = Contains places a × All (λ b. IsNotAfter a b) places

-- the fault that the places of the instantaneous loops call for
abbrev pub FaultHasCause : List Span → CodeFault → Type 0
FaultHasCause places (InstantLoop a) = IsLeastSpan (Some a) places
FaultHasCause places NoMemory = ⊤
