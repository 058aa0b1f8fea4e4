-- To believe: the rules by which an operator says less, from one look at the gates of its operands. A double negation
-- is its net, what one net says of another is said by one of them alone, and of two opposite nets an and is false and
-- an or is true. The constant false implies each net, and each net implies the constant true.
use Rattle.std.specs.Prelude.{⊤, ◌≡◌, ℕ, ◌-◌, Bool, true, false, not, ◌||◌, ◌==◌, Option, None, Some, List}
use Rattle.std.specs.Prelude.{slice_index_or, if◌then◌else◌, nat_lt, IsTrue}
use Rattle.base_types.specs.declared.indices.NetId.{NetId}
use Rattle.net_ir.specs.declared.netlist.Op.{Op}
use Rattle.net_ir.specs.declared.netlist.Op.TheVariants.{Const, Copy, Not, And, Or}
use Rattle.net_ir.specs.declared.netlist.Gate.{Gate}

-- the operator of a net's gate, where the first gate has this number
abbrev pub op_at : ℕ → List Gate → ℕ → Option Op
op_at first gates n = if nat_lt n first then None
    else Some (slice_index_or gates (n - first) (record { op = Const false; wire = None })).op

-- a gate of this operator is never true without the net
abbrev pub is_low : Option Op → ℕ → Bool
is_low None n = false
is_low (Some (Const b)) n = not b
is_low (Some (Copy m)) n = false
is_low (Some (Not m)) n = false
is_low (Some (And l m)) n = l.0 == n || m.0 == n
is_low (Some (Or l m)) n = false

-- a gate of this operator is true wherever the net is
abbrev pub is_high : Option Op → ℕ → Bool
is_high None n = false
is_high (Some (Const b)) n = b
is_high (Some (Copy m)) n = false
is_high (Some (Not m)) n = false
is_high (Some (And l m)) n = false
is_high (Some (Or l m)) n = l.0 == n || m.0 == n

abbrev pub negates : Option Op → ℕ → Bool
negates None n = false
negates (Some (Const b)) n = false
negates (Some (Copy m)) n = false
negates (Some (Not m)) n = m.0 == n
negates (Some (And l m)) n = false
negates (Some (Or l m)) n = false

-- one net is never true without the other
abbrev pub implies : ℕ → List Gate → ℕ → ℕ → Bool
implies first gates m n = m == n || is_low (op_at first gates m) n || is_high (op_at first gates n) m

-- one net is the other's negation
abbrev pub are_opposite : ℕ → List Gate → ℕ → ℕ → Bool
are_opposite first gates m n = negates (op_at first gates m) n || negates (op_at first gates n) m

abbrev pub negation : Option Op → NetId → Op
negation None n = Not n
negation (Some (Const b)) n = Const (not b)
negation (Some (Copy m)) n = Not n
negation (Some (Not m)) n = Copy m
negation (Some (And l m)) n = Not n
negation (Some (Or l m)) n = Not n

-- an and, of which these three are known: whether its nets are opposite, and which implies the other
abbrev pub and_by : Bool → Bool → Bool → NetId → NetId → Op
and_by opposite up down m n = if opposite then Const false
    else (if up then Copy m else (if down then Copy n else And m n))

abbrev pub or_by : Bool → Bool → Bool → NetId → NetId → Op
or_by opposite up down m n = if opposite then Const true
    else (if up then Copy n else (if down then Copy m else Or m n))

abbrev pub reduced_op : ℕ → List Gate → Op → Op
reduced_op first gates (Const b) = Const b
reduced_op first gates (Copy n) = Copy n
reduced_op first gates (Not n) = negation (op_at first gates n.0) n
reduced_op first gates (And m n) = and_by (are_opposite first gates m.0 n.0)
    (implies first gates m.0 n.0) (implies first gates n.0 m.0) m n
reduced_op first gates (Or m n) = or_by (are_opposite first gates m.0 n.0)
    (implies first gates m.0 n.0) (implies first gates n.0 m.0) m n
