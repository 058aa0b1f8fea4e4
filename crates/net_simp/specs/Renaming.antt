-- Inner: operators and netlists over the nets that stand for others.
use Rattle.std.specs.Prelude.{⊤, ◌≡◌, ℕ, ◌<◌, List, [], ◌∷◌, length, map, slice_index_or}
use Rattle.base_types.specs.declared.indices.NetId.{NetId}
use Rattle.net_ir.specs.declared.netlist.Op.{Op}
use Rattle.net_ir.specs.declared.netlist.Op.TheVariants.{Const, Copy, Not, And, Or}
use Rattle.net_ir.specs.declared.netlist.Gate.{Gate}
use Rattle.net_ir.specs.declared.netlist.Latch.{Latch}
use Rattle.net_ir.specs.declared.netlist.NetOut.{NetOut}
use Rattle.net_ir.specs.Netlists.{Netlist}

-- the net that stands for a net
abbrev pub stand_in : List NetId → ℕ → ℕ
stand_in names n = (slice_index_or names n (record { 0 = n })).0

-- by one list and then another
abbrev pub through : List NetId → List NetId → ℕ → ℕ
through draft kept n = stand_in kept (stand_in draft n)

-- each net stands for itself
abbrev pub OwnNames : List NetId → Type 0
OwnNames names = (n : ℕ) → n < length names → stand_in names n ≡ n

abbrev pub renamed_op : (ℕ → ℕ) → Op → Op
renamed_op f (Const b) = Const b
renamed_op f (Copy n) = Copy (record { 0 = f n.0 })
renamed_op f (Not n) = Not (record { 0 = f n.0 })
renamed_op f (And m n) = And (record { 0 = f m.0 }) (record { 0 = f n.0 })
renamed_op f (Or m n) = Or (record { 0 = f m.0 }) (record { 0 = f n.0 })

abbrev pub renamed_out : (ℕ → ℕ) → NetOut → NetOut
renamed_out f o = record { name = o.name; net = record { 0 = f o.net.0 } }

abbrev pub renamed_latch : (ℕ → ℕ) → Latch → Latch
renamed_latch f l = record { init = l.init; from = record { 0 = f l.from.0 } }

-- a netlist over these gates
abbrev pub renamed_net : Netlist → (ℕ → ℕ) → List Gate → Netlist
renamed_net net f gates = record {
  name = net.name;
  inputs = net.inputs;
  outputs = map (renamed_out f) net.outputs;
  paused = f net.paused;
  latches = map (renamed_latch f) net.latches;
  gates = gates;
}
