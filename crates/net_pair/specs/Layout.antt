-- Inner: the nets of a pair.
use Rattle.std.specs.Prelude.{ℕ, ◌+◌, ◌*◌, Bool, false, if◌then◌else◌, nat_lt, List, [], ◌∷◌, ◌++◌, length, map, None}
use Rattle.std.specs.Prelude.{codes}
use Rattle.base_types.specs.declared.indices.NetId.{NetId}
use Rattle.net_ir.specs.declared.netlist.Op.{Op}
use Rattle.net_ir.specs.declared.netlist.Op.TheVariants.{Const, Not, And, Or}
use Rattle.net_ir.specs.declared.netlist.Gate.{Gate}
use Rattle.net_ir.specs.declared.netlist.NetOut.{NetOut}
use Rattle.net_ir.specs.Netlists.{Netlist, first_gate}
use Rattle.net_simp.specs.Renaming.{renamed_latch, renamed_op}
use Rattle.net_pair.specs.declared.comparing.Both.{Both}
use Rattle.net_pair.specs.declared.moving.Shift.{Shift}

-- the net of the pair that a net is
abbrev pub moved : Shift → ℕ → ℕ
moved s n = if nat_lt n s.first_latch then n else if nat_lt n s.first_gate then n + s.latches else n + s.gates

abbrev pub left_shift : Netlist → Netlist → Shift
left_shift a b =
    record { first_latch = length a.inputs; first_gate = first_gate a; latches = 0; gates = length b.latches }

abbrev pub right_shift : Netlist → Netlist → Shift
right_shift a b = record {
  first_latch = length b.inputs;
  first_gate = first_gate b;
  latches = length a.latches;
  gates = length a.latches + length a.gates;
}

abbrev pub silent_gate : Op → Gate
silent_gate op = record { op = op; wire = None }

abbrev pub moved_gate : (ℕ → ℕ) → Gate → Gate
moved_gate f g = silent_gate (renamed_op f g.op)

abbrev pub net_id : ℕ → NetId
net_id n = record { 0 = n }

-- ---- comparisons

abbrev pub both_nets : ℕ → ℕ → Both
both_nets m n = record { left = net_id m; right = net_id n }

-- The gates that compare two nets, after the net `last`, which says whether nets before differ. The last of the gates
-- says it of these too.
abbrev pub comparison : ℕ → Both → List Gate
comparison last b =
    silent_gate (Or b.left b.right) ∷ silent_gate (And b.left b.right) ∷ silent_gate (Not (net_id (last + 2)))
    ∷ silent_gate (And (net_id (last + 1)) (net_id (last + 3))) ∷ silent_gate (Or (net_id last) (net_id (last + 4)))
    ∷ []

abbrev pub comparisons : ℕ → List Both → List Gate
comparisons last [] = []
comparisons last (b ∷ pairs) = comparison last b ++ comparisons (last + 5) pairs

-- the nets of outputs two by two
abbrev pub compared_outputs : (f g : ℕ → ℕ) → List NetOut → List NetOut → List Both
compared_outputs f g (o ∷ os) (p ∷ ps) = both_nets (f o.net.0) (g p.net.0) ∷ compared_outputs f g os ps
compared_outputs f g [] ps = []
compared_outputs f g (o ∷ os) [] = []

abbrev pub compared_nets : (f g : ℕ → ℕ) → Netlist → Netlist → List Both
compared_nets f g a b = compared_outputs f g a.outputs b.outputs ++ both_nets (f a.paused) (g b.paused) ∷ []

-- ---- the pair

abbrev pub left_net : Netlist → Netlist → ℕ → ℕ
left_net a b = moved (left_shift a b)

abbrev pub right_net : Netlist → Netlist → ℕ → ℕ
right_net a b = moved (right_shift a b)

-- the number of the gate that is false, after the gates of both
abbrev pub false_net : Netlist → Netlist → ℕ
false_net a b = length a.inputs + length a.latches + length b.latches + length a.gates + length b.gates

-- the last gate
abbrev pub different_net : Netlist → Netlist → ℕ
different_net a b = false_net a b + 5 * (length a.outputs + 1)

abbrev pub own_gates : Netlist → Netlist → List Gate
own_gates a b = map (moved_gate (left_net a b)) a.gates ++ map (moved_gate (right_net a b)) b.gates

abbrev pub pair_gates : Netlist → Netlist → List Gate
pair_gates a b = (own_gates a b ++ silent_gate (Const false) ∷ [])
    ++ comparisons (false_net a b) (compared_nets (left_net a b) (right_net a b) a b)

abbrev pub pair_net : Netlist → Netlist → Netlist
pair_net a b = record {
  name = a.name;
  inputs = a.inputs;
  outputs = record { name = codes "DIFFERENT"; net = net_id (different_net a b) } ∷ [];
  paused = different_net a b;
  latches = map (renamed_latch (left_net a b)) a.latches ++ map (renamed_latch (right_net a b)) b.latches;
  gates = pair_gates a b;
}
