-- Contract: gates over nets for the nodes of a schedule. Each copy of a node reads the copies that are latest then.
use Rattle.std.specs.Prelude.{◌≡◌, ℕ, ◌+◌, ◌<◌, ◌≤◌, ◌^◌, Bool, false, List, ◌++◌, length, map, slice_index_or, All}
use Rattle.std.specs.Prelude.{IsTrue, None, [], ◌∷◌, ⊤}
use Rattle.base_types.specs.declared.indices.NetId.{NetId}
use Rattle.net_ir.specs.declared.netlist.Gate.{Gate}
use Rattle.net_ir.specs.declared.netlist.Op.{Op}
use Rattle.net_ir.specs.declared.netlist.Op.TheVariants as ops
use Rattle.net_ir.specs.Gates.{ReadsLower, carried, gate_values, value_in}
use Rattle.grc_ternary_gates.specs.declared.gates.Gate as systems
use Rattle.grc_ternary_gates.specs.declared.gates.Gate.TheVariants as gates
use Rattle.grc_ternary_gates.specs.Systems.{gate_fits}
use Rattle.net_unroll.specs.declared.growing.GrowFault.{GrowFault}
use Rattle.net_unroll.specs.declared.growing.GrowFault.TheVariants.{NoMemory, TooManyNets}
use Rattle.net_unroll.specs.declared.growing.Growing.{Growing}
use Rattle.net_unroll.specs.Laws.{IsSchedule}
use Rattle.net_unroll.specs.Schedules.{all_false, truths_along}

-- the net at a place of a table
abbrev pub net_at : List NetId → ℕ → NetId
net_at nets n = slice_index_or nets n (record { 0 = 0 })

-- a gate of a system over the nets of its sources and of its nodes
abbrev pub truth_op : List NetId → List NetId → systems.Gate → Op
truth_op sources copies (gates.Source k) = ops.Copy (net_at sources k)
truth_op sources copies (gates.Same a) = ops.Copy (net_at copies a)
truth_op sources copies (gates.Not a) = ops.Not (net_at copies a)
truth_op sources copies (gates.And a b) = ops.And (net_at copies a) (net_at copies b)
truth_op sources copies (gates.Or a b) = ops.Or (net_at copies a) (net_at copies b)

-- the number of the next gate
abbrev pub next_number : Growing → ℕ
next_number g = g.first + length g.list.items

-- the values of all nets, where those before the gates have these
abbrev pub values_of : Growing → List Bool → List Bool
values_of g front = gate_values front g.list.items

-- the values of nets
abbrev pub values_at : Growing → List NetId → List Bool → List Bool
values_at g nets front = map (λ n. value_in (values_of g front) n.0) nets

-- these are nets that there are
abbrev pub AreNets : Growing → List NetId → Type 0
AreNets g nets = All (λ n. n.0 < next_number g) nets

-- one gate more, which carries no wire
pub record Pushed (old new : Growing) (op : Op) : Type 0 where
  pub first : new.first ≡ old.first
  pub list : new.list.items ≡ old.list.items ++ record { op = op; wire = None } ∷ []

-- what gates begin with: each reads lower nets
pub record IsGrowing (g : Growing) : Type 0 where
  pub reads : ReadsLower g.first g.list.items
  pub numbered : next_number g ≤ 2 ^ 32

-- `count` more gates, none of which carries a wire
pub record Grows (old new : Growing) (count : ℕ) : Type 0 where
  pub first : new.first ≡ old.first
  pub more : (extra : List Gate) × (new.list.items ≡ old.list.items ++ extra)
  pub growing : IsGrowing new
  pub many : next_number new ≡ next_number old + count
  pub silent : carried new.list.items ≡ carried old.list.items

-- Why gates cannot grow by this number: the nets would pass their numbers. Running out of memory has no cause here.
abbrev pub IsFull : GrowFault → (next count : ℕ) → Type 0
IsFull TooManyNets next count = 2 ^ 32 ≤ next + count
IsFull NoMemory next count = ⊤

-- a net that is never true
pub record IsNo (g : Growing) (n : ℕ) : Type 0 where
  pub low : n < next_number g
  pub never : (front : List Bool) → length front ≡ g.first → value_in (values_of g front) n ≡ false

-- A system can be unrolled along a schedule over the nets of its sources.
pub record CanUnroll (old : Growing) (system : List systems.Gate) (sources : List NetId) (no : NetId)
    (schedule : List ℕ) : Type 0 where
  pub growing : IsGrowing old
  pub fit : All (λ g. IsTrue (gate_fits (length system) (length sources) g)) system
  pub source_nets : AreNets old sources
  pub never : IsNo old no.0
  pub nodes : IsSchedule system schedule

-- The copies of the nodes have the truth values along the schedule, from all false.
pub record AreCopies (old new : Growing) (system : List systems.Gate) (sources copies : List NetId)
    (schedule : List ℕ) :
    Type 0 where
  pub each : length copies ≡ length system
  pub nets : AreNets new copies
  pub truths : (front : List Bool) → length front ≡ old.first → (n : ℕ) → n < length system
      → value_in (values_of new front) (net_at copies n).0
      ≡ truths_along system (values_at old sources front) all_false schedule n

pub record IsUnrolled (old new : Growing) (system : List systems.Gate) (sources copies : List NetId)
    (schedule : List ℕ) :
    Type 0 where
  pub grows : Grows old new (length schedule)
  pub made : AreCopies old new system sources copies schedule
