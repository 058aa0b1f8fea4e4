-- Inner: gates without those that are not marked.
use Rattle.std.specs.Prelude.{◌≡◌, ℕ, ◌+◌, ◌<◌, zero, suc, Bool, List, [], ◌∷◌, length, slice_index_or, take}
use Rattle.std.specs.Prelude.{if◌then◌else◌, IsTrue}
use Rattle.base_types.specs.declared.indices.NetId.{NetId}
use Rattle.net_ir.specs.declared.netlist.Gate.{Gate}
use Rattle.net_simp.specs.Renaming.{stand_in, renamed_op}
use Rattle.net_simp.specs.Keeping.{KeepsValues}
use Rattle.net_simp.specs.Needs.{marked}

-- how many of the nets below this one are marked
abbrev pub rank : List Bool → ℕ → ℕ
rank marks zero = 0
rank marks (suc n) = rank marks n + (if marked marks n then 1 else 0)

-- what is in the new gates at this place: the old gate of this rank
pub record ComesFrom (first : ℕ) (marks : List Bool) (gates new : List Gate) (place : ℕ) : Type 0 where
  pub at : ℕ
  pub within : at < length gates
  pub kept : IsTrue (marked marks (first + at))
  pub ranked : rank marks (first + at) ≡ first + place
  pub wire : (d : Gate) → (slice_index_or new place d).wire ≡ (slice_index_or gates at d).wire
  pub op : (d : Gate) → (slice_index_or new place d).op ≡ renamed_op (rank marks) (slice_index_or gates at d).op

-- the new gates are the marked old ones, and each net has its rank
pub record Packed (first : ℕ) (marks : List Bool) (gates new : List Gate) (names : List NetId) : Type 0 where
  pub count : length names ≡ first + length gates
  pub stand_in_is : (n : ℕ) → n < length names → stand_in names n ≡ rank marks n
  pub total : first + length new ≡ rank marks (first + length gates)
  pub from : (j : ℕ) → j < length new → ComesFrom first marks gates new j
  pub keeps : KeepsValues first gates new (rank marks) (λ n. IsTrue (marked marks n))
