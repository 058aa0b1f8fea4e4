-- To believe: the first relation that an event breaks.
use Rattle.std.specs.Prelude.{ℕ, ◌<◌, Bool, List, length, slice_index_or}
use Rattle.base_types.specs.Relations.{Relation, Meets}

-- the event breaks the relation at this place, and none before it
pub record IsFirstBroken (relations : List Relation) (event : List Bool) (place : ℕ) : Type 0 where
  pub within : place < length relations
  pub broken : (d : Relation) → Meets event (slice_index_or relations place d) → ⊥
  pub before : (k : ℕ) (d : Relation) → k < place → Meets event (slice_index_or relations k d)
