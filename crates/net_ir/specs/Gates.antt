-- To believe: what gates read and carry, and their values. A net is meant by its number.
use Rattle.std.specs.Prelude.{◌≡◌, ℕ, ◌+◌, ◌<◌, ◌≤◌, max, Bool, false, not, ◌&&◌, ◌||◌, List, [], ◌∷◌, ◌++◌, length}
use Rattle.std.specs.Prelude.{slice_index_or, filter_map, option_map}
use Rattle.net_ir.specs.declared.netlist.Op.{Op}
use Rattle.net_ir.specs.declared.netlist.Op.TheVariants.{Const, Copy, Not, And, Or}
use Rattle.net_ir.specs.declared.netlist.Gate.{Gate}

-- the least number above those of the nets that an operator reads
abbrev pub operand_end : Op → ℕ
operand_end (Const b) = 0
operand_end (Copy n) = n.0 + 1
operand_end (Not n) = n.0 + 1
operand_end (And m n) = max (m.0 + 1) (n.0 + 1)
operand_end (Or m n) = max (m.0 + 1) (n.0 + 1)

-- each gate reads nets of lower numbers alone, where start is the number of the first gate
abbrev pub ReadsLower : ℕ → List Gate → Type 0
ReadsLower start gates = (k : ℕ) (d : Gate) → k < length gates → operand_end (slice_index_or gates k d).op ≤ start + k

-- the wires that gates carry, in order
abbrev pub carried : List Gate → List ℕ
carried gates = filter_map (λ g. option_map (λ w. w.0) g.wire) gates

-- what an operator makes of the values of the nets
abbrev pub op_value : (ℕ → Bool) → Op → Bool
op_value values (Const b) = b
op_value values (Copy n) = values n.0
op_value values (Not n) = not (values n.0)
op_value values (And m n) = values m.0 && values n.0
op_value values (Or m n) = values m.0 || values n.0

-- the value of a net, in a list of one value per net
abbrev pub value_in : List Bool → ℕ → Bool
value_in values n = slice_index_or values n false

-- the values of all nets, where those before the first gate are given: each gate in turn adds the
-- value that its operator makes of those before it
abbrev pub gate_values : List Bool → List Gate → List Bool
gate_values values [] = values
gate_values values (g ∷ gates) = gate_values (values ++ op_value (value_in values) g.op ∷ []) gates

-- every gate's equation holds, where start is the number of the first gate
abbrev pub Solves : ℕ → List Gate → List Bool → Type 0
Solves start gates values = (k : ℕ) (d : Gate) → k < length gates
    → value_in values (start + k) ≡ op_value (value_in values) (slice_index_or gates k d).op
