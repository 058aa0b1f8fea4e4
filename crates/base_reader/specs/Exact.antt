-- To believe: what it means that a whole list of tokens is read exactly. L room value tokens says that the list
-- is written for the value and that the nesting is at most the room.
use Rattle.std.specs.Prelude.{◌≡◌, ◌↔◌, ℕ, IsTrue, List, [], ◌∷◌, ◌++◌, length, Result, Ok, Err}
use Rattle.base_reader.specs.declared.faults.Fault.{Fault}
use Rattle.base_reader.specs.declared.faults.ReadError.{ReadError}
use Rattle.base_reader.specs.declared.faults.ReadError.TheVariants as errors
use Rattle.base_reader.specs.Languages.{next_of}

-- the front begins a member
abbrev pub BeginsMember : {T A : Type 0} → (A → List T → Type 0) → List T → Type 0
BeginsMember {T} {A} M front = (value : A) × (tail : List T) × M value (front ++ tail)

-- the front and the next token of the rest begin a member, if only there is more room
abbrev pub BeginsDeeper : {T A : Type 0} → (ℕ → A → List T → Type 0) → List T → List T → Type 0
BeginsDeeper L front [] = ⊥
BeginsDeeper {T} {A} L front (token ∷ rest) =
    (room : ℕ) × (value : A) × (tail : List T) × L room value (front ++ token ∷ tail)

-- The fault is at the least place that no member passes: what stands before it begins a member, and with
-- the token at it nothing does. At the end of the list the list itself is no member. The fault is for
-- depth exactly where with that token a member of greater nesting begins.
pub record IsLeastPlace {T A : Type 0} (L : ℕ → A → List T → Type 0) (room : ℕ) (tokens : List T)
    (fault : Fault) : Type 0 where
  pub front : List T
  pub rest : List T
  pub cut : tokens ≡ front ++ rest
  pub place : fault.left ≡ length rest
  pub begins : BeginsMember (L room) front
  pub stuck : (value : A) (other : List T) → next_of other ≡ next_of rest → L room value (front ++ other) → ⊥
  pub deep : IsTrue fault.deep ↔ BeginsDeeper L front rest

-- the value is the one for which the list is written
pub record IsOnly {T A : Type 0} (L : ℕ → A → List T → Type 0) (room : ℕ) (tokens : List T) (value : A) : Type 0 where
  pub member : L room value tokens
  pub only : (other : A) → L room other tokens → other ≡ value

-- The answer is exact: the one value for which the list is written, or the least place.
abbrev pub Exactly : {T A : Type 0} → (ℕ → A → List T → Type 0) → ℕ → List T → Result A Fault → Type 0
Exactly L room tokens (Ok value) = IsOnly L room tokens value
Exactly L room tokens (Err fault) = IsLeastPlace L room tokens fault

-- what code returned, seen by a view, is exact, unless memory ran out
abbrev pub GivesExactly : {T X Y : Type 0} → (X → Y) → (ℕ → Y → List T → Type 0) → ℕ → List T →
    Result X ReadError → Type 0
GivesExactly view L room tokens (Ok found) = IsOnly L room tokens (view found)
GivesExactly view L room tokens (Err (errors.Fault fault)) = IsLeastPlace L room tokens fault
GivesExactly view L room tokens (Err errors.NoMemory) = Unit {0}
