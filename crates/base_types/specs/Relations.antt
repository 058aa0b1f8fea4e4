-- To believe: what an environment keeps of the given signals in every instant.
use Rattle.std.specs.Prelude.{◌≢◌, ℕ, Bool, false, List, map, All, Contains, IsTrue, slice_index_or}
use Rattle.base_types.specs.declared.interface.InputRelation.{InputRelation}
use Rattle.base_types.specs.declared.interface.InputRelation.TheVariants as relations_of_inputs

-- a relation of given signals, which stand by their numbers
pub data Relation : Type 0 where
  Implies : (a b : ℕ) → Relation
  Excludes : (signals : List ℕ) → Relation

-- a relation by numbers
abbrev pub relation_of : InputRelation → Relation
relation_of (relations_of_inputs.Implies a b) = Implies a.0 b.0
relation_of (relations_of_inputs.Excludes signals) = Excludes (map (λ s. s.0) signals.items)

-- a given signal is present in an event, which has one truth value per given signal
abbrev pub IsPresent : List Bool → ℕ → Type 0
IsPresent event s = IsTrue (slice_index_or event s false)

-- A => B: B is present whenever A is. A # B # C: no two different signals of the list are present.
abbrev pub Meets : List Bool → Relation → Type 0
Meets event (Implies a b) = IsPresent event a → IsPresent event b
Meets event (Excludes signals) =
    (a b : ℕ) → Contains signals a → Contains signals b → a ≢ b → IsPresent event a → IsPresent event b → ⊥

-- an event meets every relation of a list
abbrev pub MeetsAll : List Relation → List Bool → Type 0
MeetsAll relations event = All (Meets event) relations
