-- Contract: systems of three-valued gates, and their least solutions, by Kleene's tables.
use Rattle.std.specs.Prelude.{◌≡◌, ℕ, ◌<◌, Bool, true, false, ◌&&◌, nat_lt, List, length, slice_index_or, Option}
use Rattle.std.specs.Prelude.{Some, None}
use Rattle.est_kernel.specs.Laws.{IsBelow}
use Rattle.est_kernel.specs.Statuses.{Status, Plus, Minus, Unknown, known, opposite, conjunction, disjunction}
use Rattle.grc_ternary_gates.specs.declared.gates.Value.{Value}
use Rattle.grc_ternary_gates.specs.declared.gates.Value.TheVariants as values
use Rattle.grc_ternary_gates.specs.declared.gates.Gate.{Gate}
use Rattle.grc_ternary_gates.specs.declared.gates.Gate.TheVariants as gates
use Rattle.grc_ternary_gates.specs.declared.gates.Side.{Side}
use Rattle.grc_ternary_gates.specs.declared.gates.Side.TheVariants as sides

-- what is known of a node, as a status
abbrev pub status_of : Value → Status
status_of values.Unknown = Unknown
status_of values.False = Minus
status_of values.True = Plus

abbrev pub is_unknown : Value → Bool
is_unknown values.Unknown = true
is_unknown values.False = false
is_unknown values.True = false

-- the statuses of nodes by number; of what is no node nothing is known
abbrev pub statuses_of : List Value → ℕ → Status
statuses_of vs n = status_of (slice_index_or vs n values.Unknown)

-- the one of two operands that is meant
abbrev pub one_of : Side → ℕ → ℕ → Option ℕ
one_of sides.First a b = Some a
one_of sides.Second a b = Some b

-- the only operand, which is the first
abbrev pub only_first : Side → ℕ → Option ℕ
only_first sides.First a = Some a
only_first sides.Second a = None

-- an operand of a gate
abbrev pub operand : Side → Gate → Option ℕ
operand side (gates.Source k) = None
operand side (gates.Same a) = only_first side a
operand side (gates.Not a) = only_first side a
operand side (gates.And a b) = one_of side a b
operand side (gates.Or a b) = one_of side a b

-- the gate of a node
abbrev pub gate_at : List Gate → ℕ → Gate
gate_at all n = slice_index_or all n (gates.Source 0)

-- the status of a gate, where the sources have these values and the nodes these statuses
abbrev pub gate_status : List Bool → (ℕ → Status) → Gate → Status
gate_status sources V (gates.Source k) = known (slice_index_or sources k false)
gate_status sources V (gates.Same a) = V a
gate_status sources V (gates.Not a) = opposite (V a)
gate_status sources V (gates.And a b) = conjunction (V a) (V b)
gate_status sources V (gates.Or a b) = disjunction (V a) (V b)

-- whether a gate reads so many nodes and sources alone
abbrev pub gate_fits : (nodes sources : ℕ) → Gate → Bool
gate_fits nodes sources (gates.Source k) = nat_lt k sources
gate_fits nodes sources (gates.Same a) = nat_lt a nodes
gate_fits nodes sources (gates.Not a) = nat_lt a nodes
gate_fits nodes sources (gates.And a b) = nat_lt a nodes && nat_lt b nodes
gate_fits nodes sources (gates.Or a b) = nat_lt a nodes && nat_lt b nodes

-- statuses solve a system: each node has that of its gate
pub record IsSolution (all : List Gate) (sources : List Bool) (V : ℕ → Status) : Type 0 where
  pub met : (n : ℕ) → n < length all → V n ≡ gate_status sources V (gate_at all n)

-- The least solution knows of each node what all solutions know of it, and no more.
pub record IsLeastSolution (all : List Gate) (sources : List Bool) (V : ℕ → Status) : Type 0 where
  pub solves : IsSolution all sources V
  pub least : (U : ℕ → Status) → IsSolution all sources U → (n : ℕ) → n < length all → IsBelow (V n) (U n)
