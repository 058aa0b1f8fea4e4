-- Inner: a least solution under way.
use Rattle.std.specs.Prelude.{◌≡◌, ◌⊎◌, ℕ, ◌+◌, ◌<◌, ◌≤◌, ◌==◌, Bool, true, false, not, ◌&&◌, ◌||◌, List, length}
use Rattle.std.specs.Prelude.{nat_lt, slice_index}
use Rattle.std.specs.Prelude.{slice_set, count_by, Option, Some, None}
use Rattle.est_kernel.specs.Laws.{IsBelow}
use Rattle.est_kernel.specs.Statuses.{Status, Unknown}
use Rattle.grc_ternary_gates.specs.declared.gates.Gate.{Gate}
use Rattle.grc_ternary_gates.specs.declared.gates.Side.{Side}
use Rattle.grc_ternary_gates.specs.declared.gates.Value.{Value}
use Rattle.grc_ternary_gates.specs.declared.solver.Solver.{Solver}
use Rattle.grc_ternary_gates.specs.Linking.{Reads}
use Rattle.grc_ternary_gates.specs.Systems.{IsSolution, gate_at, gate_status, is_unknown, operand, statuses_of}

-- how much must be done: nodes to be decided, and decided nodes whose readers must be looked at
abbrev pub work_of : Solver → ℕ
work_of s = s.height + count_by is_unknown s.values.items

-- a solver has room for so many nodes, and only nodes depend on its list
pub record Fits (nodes : ℕ) (s : Solver) : Type 0 where
  pub values : length s.values.items ≡ nodes
  pub stack : length s.stack.items ≡ nodes
  pub room : work_of s ≤ nodes
  pub listed : (p : ℕ) → p < s.height → slice_index s.stack.items p < nodes

-- a gate reads a node of the list
pub record Waits (all : List Gate) (stack : List ℕ) (height : ℕ) (node : ℕ) : Type 0 where
  pub side : Side
  pub place : ℕ
  pub low : place < height
  pub reads : Reads side all node (slice_index stack place)

-- What is known so far of the nodes is known in every solution, and follows from the gates. A node of which nothing is
-- known has a gate of which nothing is known, or is still to be looked at.
pub record Underway (all : List Gate) (sources : List Bool) (V : ℕ → Status) (stack : List ℕ) (height : ℕ)
    (todo : ℕ → Bool) : Type 0 where
  pub sure : (n : ℕ) → n < length all → IsBelow (V n) (gate_status sources V (gate_at all n))
  pub least : (U : ℕ → Status) → IsSolution all sources U → (n : ℕ) → IsBelow (V n) (U n)
  pub rest : (n : ℕ) → n < length all → V n ≡ Unknown
      → (gate_status sources V (gate_at all n) ≡ Unknown) ⊎ ((todo n ≡ true) ⊎ Waits all stack height n)

abbrev pub IsUnderway : List Gate → List Bool → Solver → (ℕ → Bool) → Type 0
IsUnderway all sources s todo = Underway all sources (statuses_of s.values.items) s.stack.items s.height todo

-- all that must be looked at but one node
abbrev pub without : ℕ → (ℕ → Bool) → ℕ → Bool
without node todo = λ n. todo n && not (n == node)

abbrev pub is_operand : Option ℕ → ℕ → Bool
is_operand None node = false
is_operand (Some a) node = a == node

-- all that must be looked at and the gates up to a number that have a node as this operand
abbrev pub with_readers_below : List Gate → Side → ℕ → ℕ → (ℕ → Bool) → ℕ → Bool
with_readers_below all side node end todo =
    λ n. todo n || (is_operand (operand side (gate_at all n)) node && nat_lt n end)

-- all that must be looked at and the gates that have a node as this operand
abbrev pub with_readers : List Gate → Side → ℕ → (ℕ → Bool) → ℕ → Bool
with_readers all side node todo = with_readers_below all side node (length all) todo

-- a node gets its value and comes onto the list
pub record Decides (old new : Solver) (node : ℕ) (value : Value) : Type 0 where
  pub values : new.values.items ≡ slice_set old.values.items node value
  pub stack : new.stack.items ≡ slice_set old.stack.items old.height node
  pub height : new.height ≡ old.height + 1

-- the last node of the list is taken from it
pub record Pops (old new : Solver) (node : ℕ) : Type 0 where
  pub top : node ≡ slice_index old.stack.items new.height
  pub height : old.height ≡ new.height + 1
  pub values : new.values.items ≡ old.values.items
  pub stack : new.stack.items ≡ old.stack.items
