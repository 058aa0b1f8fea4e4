-- Contract: slots, which are the places of names among some, and what the values of slots say of names.
use Rattle.std.specs.Prelude.{ℕ, Bool, false, List, slice_index_or}
use Rattle.std.specs.List.{position_or_len}
use Rattle.base_types.specs.Names.{is_same_name}

-- the place of a name among some, or their number where it is none of them
abbrev pub slot_in : List (List ℕ) → List ℕ → ℕ
slot_in names name = position_or_len (is_same_name name) names

-- the value at a place; where none is, 0
abbrev pub value_at : List Bool → ℕ → Bool
value_at values k = slice_index_or values k false

-- what values say of names, where each name has its slot
abbrev pub memory_in : List (List ℕ) → List Bool → List ℕ → Bool
memory_in names values name = value_at values (slot_in names name)
