-- To believe: machines that items drive, their runs, and what it means that one follows another.
use Rattle.std.specs.Prelude.{◌≡◌, Bool, List, [], ◌∷◌, map}
use Rattle.base_types.specs.Items.{Item, Event, Reset}

-- A machine. X is all that is so in an instant. Which instants there may be in a state, with these values of the
-- inputs, is a relation; the state after an instant is a function of what was so in it.
pub record Machine (X : Type 0) : Type 1 where
  pub State : Type 0
  pub start : State
  pub instant : State → List Bool → X → Type 0
  pub next : State → List Bool → X → State

-- a run from a state on: one instant for each event, from the state after the one before; a reset leads to the start
abbrev pub IsRunFrom : {X : Type 0} → (M : Machine X) → M.State → List Item → List X → Type 0
IsRunFrom M s [] [] = Unit {0}
IsRunFrom M s [] (x ∷ xs) = ⊥
IsRunFrom M s (Event inputs ∷ items) (x ∷ xs) = M.instant s inputs x × IsRunFrom M (M.next s inputs x) items xs
IsRunFrom M s (Event inputs ∷ items) [] = ⊥
IsRunFrom M s (Reset ∷ items) xs = IsRunFrom M M.start items xs

-- a run from the start
abbrev pub IsRun : {X : Type 0} → Machine X → List Item → List X → Type 0
IsRun M items xs = IsRunFrom M M.start items xs

-- What is seen of a machine over items from a state on: there is a run, and of each run this is seen.
pub record Shows {X V : Type 0} (M : Machine X) (see : X → V) (s : M.State) (items : List Item) (seen : List V) :
    Type 0 where
  pub some_run : (xs : List X) × IsRunFrom M s items xs
  pub each_run : (xs : List X) → IsRunFrom M s items xs → seen ≡ map see xs

-- Two machines agree, by a matching of their states and by what counts as the same in an instant: their starts match,
-- and on an event that fits any two instants from matching states are the same, and the states after them match.
pub record Agrees {X Y : Type 0} (A : Machine X) (B : Machine Y) (Fits : List Bool → Type 0) (Same : X → Y → Type 0)
    (Match : A.State → B.State → Type 0) : Type 0 where
  pub starts : Match A.start B.start
  pub steps : (s : A.State) (t : B.State) (inputs : List Bool) (x : X) (y : Y) → Match s t → Fits inputs
      → A.instant s inputs x → B.instant t inputs y → Same x y × Match (A.next s inputs x) (B.next t inputs y)

-- B follows A: they agree, and where A has an instant, B has one too.
pub record Follows {X Y : Type 0} (A : Machine X) (B : Machine Y) (Fits : List Bool → Type 0) (Same : X → Y → Type 0)
    (Match : A.State → B.State → Type 0) : Type 0 where
  pub agrees : Agrees A B Fits Same Match
  pub moves : (s : A.State) (t : B.State) (inputs : List Bool) (x : X) → Match s t → Fits inputs
      → A.instant s inputs x → (y : Y) × B.instant t inputs y

-- a machine that computes: in each state and on each event one thing is so
abbrev pub computed : {S X : Type 0} → S → (S → List Bool → X) → (S → List Bool → X → S) → Machine X
computed {S} start value next = record {
  State = S;
  start = start;
  instant = λ s inputs x. x ≡ value s inputs;
  next = next;
}

-- what is so in each instant of a machine that computes, from a state on
abbrev pub run_from : {S X : Type 0} → S → (S → List Bool → X) → (S → List Bool → X → S) → S → List Item → List X
run_from start value next s [] = []
run_from start value next s (Event inputs ∷ items) =
    value s inputs ∷ run_from start value next (next s inputs (value s inputs)) items
run_from start value next s (Reset ∷ items) = run_from start value next start items

-- the machine, with those instants alone of which Q holds
abbrev pub within : {X : Type 0} → (M : Machine X) → (M.State → X → Type 0) → Machine X
within M Q = record {
  State = M.State;
  start = M.start;
  instant = λ s inputs x. M.instant s inputs x × Q s x;
  next = M.next;
}
