-- Inner: which gates read each node.
use Rattle.std.specs.Prelude.{◌≡◌, ℕ, ◌+◌, ◌-◌, ◌<◌, ◌≤◌, List, [], ◌∷◌, ◌++◌, length, slice_index, slice_set}
use Rattle.std.specs.Prelude.{Option, Some}
use Rattle.std.specs.Prelude.{None}
use Rattle.grc_ternary_gates.specs.declared.gates.Gate.{Gate}
use Rattle.grc_ternary_gates.specs.declared.gates.Side.{Side}
use Rattle.grc_ternary_gates.specs.declared.links.Links.{Links}
use Rattle.grc_ternary_gates.specs.Systems.{gate_at, operand}

-- a gate has the node as this operand
abbrev pub Reads : Side → List Gate → ℕ → ℕ → Type 0
Reads side all k node = operand side (gate_at all k) ≡ Some node

-- the operands of gates are nodes
abbrev pub OperandsFit : Side → List Gate → Type 0
OperandsFit side all = (k a : ℕ) → k < length all → Reads side all k a → a < length all

-- the last of the first gates up to the end that has the node as this operand, by the number of gates up to it; 0 where
-- there is none
pub record IsLastReader (side : Side) (all : List Gate) (node end last : ℕ) : Type 0 where
  pub within : last ≤ end
  pub reads : 0 < last → Reads side all (last - 1) node
  pub none_between : (k : ℕ) → last ≤ k → k < end → Reads side all k node → ⊥

-- for each gate the last one before it that has the same operand
pub record IsEarlier (side : Side) (all : List Gate) (k earlier : ℕ) : Type 0 where
  pub within : earlier ≤ k
  pub same : (node : ℕ) → Reads side all k node → IsLastReader side all node k earlier

-- the last gate with each node as this operand, and for each gate the last one before it with the same
pub record AreLinks (side : Side) (all : List Gate) (last earlier : List ℕ) : Type 0 where
  pub nodes : length last ≡ length all
  pub places : length earlier ≡ length all
  pub into : (node : ℕ) → node < length all → IsLastReader side all node (length all) (slice_index last node)
  pub before : (k : ℕ) → k < length all → IsEarlier side all k (slice_index earlier k)

-- the links with those of one more gate
abbrev pub last_with : List ℕ → ℕ → Option ℕ → List ℕ
last_with last gate None = last
last_with last gate (Some node) = slice_set last node (gate + 1)

abbrev pub earlier_of : List ℕ → Option ℕ → ℕ
earlier_of last None = 0
earlier_of last (Some node) = slice_index last node

pub record IsLinked (old new : Links) (gate : ℕ) (operand : Option ℕ) : Type 0 where
  pub last : new.last.items ≡ last_with old.last.items gate operand
  pub earlier : new.earlier.items ≡ old.earlier.items ++ earlier_of old.last.items operand ∷ []
