-- To believe: which gates of a netlist belong to which head, and which of them its own gates alone use.
--
-- A head is reported by the place of the gate that says whether it runs; `region` says of a gate that carries a wire of
-- some head's region which head that is. A gate belongs to a head where it comes after the head's gate, and lies in
-- the head's region, or carries no wire, is used, and is used by gates of the head alone. A net is used where a gate
-- reads it, a latch takes it over, an output shows it, or `paused` does.
use Rattle.std.specs.Prelude.{ℕ, ◌+◌, ◌||◌, ◌==◌, nat_lt, if◌then◌else◌, List, [], ◌∷◌, Option, Some, None}
use Rattle.std.specs.List.{list_any}
use Rattle.base_types.specs.declared.indices.NetId.{NetId}
use Rattle.base_types.specs.declared.indices.WireId.{WireId}
use Rattle.net_ir.specs.declared.netlist.Gate.{Gate}
use Rattle.net_ir.specs.declared.netlist.Op.{Op}
use Rattle.net_ir.specs.declared.netlist.Op.TheVariants.{Const, Copy, Not, And, Or}
use Rattle.net_ir.specs.Netlists.{Netlist, first_gate}

-- how a gate belongs: to no head; to this head, whose gates alone use it; or to this head, and it is used beside
pub data Owner : Type 0 where
  Free : Owner
  Inner : (head : ℕ) → Owner
  Outer : (head : ℕ) → Owner

-- what uses a net: nothing, gates of this head alone, or something else
pub data Usage : Type 0 where
  Unused : Usage
  Within : (head : ℕ) → Usage
  Mixed : Usage

abbrev pub both : Usage → Usage → Usage
both Unused other = other
both (Within h) Unused = Within h
both (Within h) (Within i) = if h == i then Within h else Mixed
both (Within h) Mixed = Mixed
both Mixed other = Mixed

-- a use by a gate
abbrev pub usage_by : Owner → Usage
usage_by Free = Mixed
usage_by (Inner h) = Within h
usage_by (Outer h) = Within h

abbrev pub with_operand : Owner → NetId → ℕ → Usage → Usage
with_operand o a n u = if a.0 == n then both (usage_by o) u else u

-- how a net is used by a gate with this operator, and by what uses it so
abbrev pub with_gate : Owner → Op → ℕ → Usage → Usage
with_gate o (Const b) n u = u
with_gate o (Copy a) n u = with_operand o a n u
with_gate o (Not a) n u = with_operand o a n u
with_gate o (And a b) n u = with_operand o a n (with_operand o b n u)
with_gate o (Or a b) n u = with_operand o a n (with_operand o b n u)

-- how a net is used by what is no gate
abbrev pub usage_beside : Netlist → ℕ → Usage
usage_beside net n =
    if (list_any (λ l. l.from.0 == n) net.latches || list_any (λ o. o.net.0 == n) net.outputs) || net.paused == n
    then Mixed else Unused

-- how a net is used by these gates, which belong so, and by what is no gate
abbrev pub usage : Netlist → List Gate → List Owner → ℕ → Usage
usage net (g ∷ gates) (o ∷ owners) n = with_gate o g.op n (usage net gates owners n)
usage net others owners n = usage_beside net n

-- of a gate that belongs to a head and is used so
abbrev pub owner_by : ℕ → Usage → Owner
owner_by h Unused = Inner h
owner_by h (Within i) = if h == i then Inner h else Outer h
owner_by h Mixed = Outer h

-- the gate at place k, where it would belong so to this head: it comes after the head's gate
abbrev pub behind : ℕ → ℕ → Owner → Owner
behind k h owner = if nat_lt h k then owner else Free

abbrev pub in_region : ℕ → Option ℕ → Usage → Owner
in_region k None u = Free
in_region k (Some h) u = behind k h (owner_by h u)

abbrev pub by_use : ℕ → Usage → Owner
by_use k (Within h) = behind k h (Inner h)
by_use k others = Free

-- how the gate at place k belongs, which may carry a wire, and whose net is used so
abbrev pub owner_of : (ℕ → Option ℕ) → ℕ → Option WireId → Usage → Owner
owner_of region k None u = by_use k u
owner_of region k (Some w) u = in_region k (region k) u

-- how the gates from place k on belong, each by those after it
abbrev pub owners_from : Netlist → (ℕ → Option ℕ) → ℕ → List Gate → List Owner
owners_from net region k [] = []
owners_from net region k (g ∷ gates) =
    owner_of region k g.wire (usage net gates (owners_from net region (k + 1) gates) (first_gate net + k))
    ∷ owners_from net region (k + 1) gates

-- how each gate of a netlist belongs
abbrev pub owners : Netlist → (ℕ → Option ℕ) → List Owner
owners net region = owners_from net region 0 net.gates
