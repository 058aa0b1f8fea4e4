-- Contract: the values of a system's nodes along a schedule. A schedule is a list of nodes. Each in turn takes the
-- value of its gate, and a node may occur in the list more than once.
use Rattle.std.specs.Prelude.{ℕ, Bool, true, false, not, ◌&&◌, ◌||◌, ◌==◌, if◌then◌else◌, List, [], ◌∷◌, slice_index_or}
use Rattle.std.specs.List.{list_all}
use Rattle.est_kernel.specs.Statuses.{Status, Plus, Minus, Unknown, with_status}
use Rattle.grc_ternary_gates.specs.declared.gates.Gate.{Gate}
use Rattle.grc_ternary_gates.specs.declared.gates.Gate.TheVariants as gates
use Rattle.grc_ternary_gates.specs.Systems.{gate_at, gate_status}

-- ---- three values, from nothing known

abbrev pub nothing_known : ℕ → Status
nothing_known = λ n. Unknown

abbrev pub statuses_along : List Gate → List Bool → (ℕ → Status) → List ℕ → ℕ → Status
statuses_along all sources V [] = V
statuses_along all sources V (n ∷ ns) =
    statuses_along all sources (with_status V n (gate_status sources V (gate_at all n))) ns

-- ---- two values, from all false

abbrev pub all_false : ℕ → Bool
all_false = λ n. false

-- the truth values with another one for one node
abbrev pub with_truth : (ℕ → Bool) → ℕ → Bool → ℕ → Bool
with_truth B n b = λ m. if m == n then b else B m

-- the truth value of a gate, where the sources and the nodes have these
abbrev pub gate_truth : List Bool → (ℕ → Bool) → Gate → Bool
gate_truth sources B (gates.Source k) = slice_index_or sources k false
gate_truth sources B (gates.Same a) = B a
gate_truth sources B (gates.Not a) = not (B a)
gate_truth sources B (gates.And a b) = B a && B b
gate_truth sources B (gates.Or a b) = B a || B b

abbrev pub truths_along : List Gate → List Bool → (ℕ → Bool) → List ℕ → ℕ → Bool
truths_along all sources B [] = B
truths_along all sources B (n ∷ ns) =
    truths_along all sources (with_truth B n (gate_truth sources B (gate_at all n))) ns

-- ---- what is known at the end

abbrev pub is_known : Status → Bool
is_known Plus = true
is_known Minus = true
is_known Unknown = false

-- each of these nodes is known
abbrev pub are_known : (ℕ → Status) → List ℕ → Bool
are_known V nodes = list_all (λ n. is_known (V n)) nodes
