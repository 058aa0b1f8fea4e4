-- Contract: two nets for each node of a system, of which one says that the node is known to be true and the other that
-- it is known to be false.
use Rattle.std.specs.Prelude.{◌≡◌, ℕ, ◌+◌, ◌*◌, ◌<◌, Bool, true, false, not, ◌||◌, List, length, All}
use Rattle.std.specs.List.{list_all}
use Rattle.base_types.specs.declared.indices.NetId.{NetId}
use Rattle.est_kernel.specs.Statuses.{Status, Plus, Minus, Unknown}
use Rattle.net_ir.specs.declared.netlist.Op.{Op}
use Rattle.net_ir.specs.declared.netlist.Op.TheVariants as ops
use Rattle.net_ir.specs.Gates.{value_in}
use Rattle.grc_ternary_gates.specs.declared.gates.Gate as systems
use Rattle.grc_ternary_gates.specs.declared.gates.Gate.TheVariants as gates
use Rattle.net_unroll.specs.declared.growing.Growing.{Growing}
use Rattle.net_unroll.specs.declared.rails.Rails.{Rails}
use Rattle.net_unroll.specs.Copies.{AreNets, Grows, IsGrowing, net_at, next_number, values_at, values_of}
use Rattle.net_unroll.specs.Schedules.{are_known, nothing_known, statuses_along}

abbrev pub is_true : Status → Bool
is_true Plus = true
is_true Minus = false
is_true Unknown = false

abbrev pub is_false : Status → Bool
is_false Plus = false
is_false Minus = true
is_false Unknown = false

-- where a gate is known to be true, and where it is known to be false
abbrev pub sure_op : List NetId → Rails → systems.Gate → Op
sure_op sources r (gates.Source k) = ops.Copy (net_at sources k)
sure_op sources r (gates.Same a) = ops.Copy (net_at r.sure.items a)
sure_op sources r (gates.Not a) = ops.Copy (net_at r.excluded.items a)
sure_op sources r (gates.And a b) = ops.And (net_at r.sure.items a) (net_at r.sure.items b)
sure_op sources r (gates.Or a b) = ops.Or (net_at r.sure.items a) (net_at r.sure.items b)

abbrev pub excluded_op : List NetId → Rails → systems.Gate → Op
excluded_op sources r (gates.Source k) = ops.Not (net_at sources k)
excluded_op sources r (gates.Same a) = ops.Copy (net_at r.excluded.items a)
excluded_op sources r (gates.Not a) = ops.Copy (net_at r.sure.items a)
excluded_op sources r (gates.And a b) = ops.Or (net_at r.excluded.items a) (net_at r.excluded.items b)
excluded_op sources r (gates.Or a b) = ops.And (net_at r.excluded.items a) (net_at r.excluded.items b)

-- The rails of the nodes have their statuses along the schedule, from nothing known.
pub record AreRails (old new : Growing) (system : List systems.Gate) (sources : List NetId) (r : Rails)
    (schedule : List ℕ) : Type 0 where
  pub sure_each : length r.sure.items ≡ length system
  pub excluded_each : length r.excluded.items ≡ length system
  pub sure_nets : AreNets new r.sure.items
  pub excluded_nets : AreNets new r.excluded.items
  pub sure : (front : List Bool) → length front ≡ old.first → (n : ℕ) → n < length system
      → value_in (values_of new front) (net_at r.sure.items n).0
      ≡ is_true (statuses_along system (values_at old sources front) nothing_known schedule n)
  pub excluded : (front : List Bool) → length front ≡ old.first → (n : ℕ) → n < length system
      → value_in (values_of new front) (net_at r.excluded.items n).0
      ≡ is_false (statuses_along system (values_at old sources front) nothing_known schedule n)

pub record IsUnrolledTwice (old new : Growing) (system : List systems.Gate) (sources : List NetId) (r : Rails)
    (schedule : List ℕ) : Type 0 where
  pub grows : Grows old new (2 * length schedule)
  pub rails : AreRails old new system sources r schedule

-- A net that is true where some watched node is unknown at the end of the schedule.
pub record IsAlarm (old new : Growing) (system : List systems.Gate) (sources : List NetId) (schedule watched : List ℕ)
    (alarm : ℕ) : Type 0 where
  pub grows : Grows old new (2 * length schedule + (2 * length watched + 2))
  pub low : alarm < next_number new
  pub says : (front : List Bool) → length front ≡ old.first
      → value_in (values_of new front) alarm
      ≡ not (are_known (statuses_along system (values_at old sources front) nothing_known schedule) watched)

-- rails of nets that there are, and nodes to be watched
pub record CanWatch (g : Growing) (r : Rails) (watched : List ℕ) : Type 0 where
  pub growing : IsGrowing g
  pub sure_nets : AreNets g r.sure.items
  pub excluded_nets : AreNets g r.excluded.items
  pub sure_each : All (λ n. n < length r.sure.items) watched
  pub excluded_each : All (λ n. n < length r.excluded.items) watched

-- one rail of each watched node is true
abbrev pub told_by : List Bool → Rails → List ℕ → Bool
told_by values r watched =
    list_all (λ n. value_in values (net_at r.sure.items n).0 || value_in values (net_at r.excluded.items n).0) watched

pub record Watches (old new : Growing) (r : Rails) (watched : List ℕ) (net : ℕ) : Type 0 where
  pub grows : Grows old new (2 * length watched + 1)
  pub low : net < next_number new
  pub says : (front : List Bool) → length front ≡ old.first
      → value_in (values_of new front) net ≡ told_by (values_of old front) r watched
