-- To believe: netlists as plain values, and what holds of every one.
use Rattle.std.specs.Prelude.{ℕ, ◌+◌, ◌^◌, ◌<◌, ◌≤◌, List, length, map, slice_get, Option, option_and_then, nat_eq}
use Rattle.std.specs.Prelude.{IsTrue, All}
use Rattle.base_types.specs.declared.indices.WireId.{WireId}
use Rattle.net_ir.specs.declared.netlist.Gate.{Gate}
use Rattle.net_ir.specs.declared.netlist.Latch.{Latch}
use Rattle.net_ir.specs.declared.netlist.NetOut.{NetOut}
use Rattle.base_types.specs.Distinct.{all_differ}
use Rattle.base_types.specs.Names.{is_name, is_same_name}
use Rattle.net_ir.specs.Gates.{ReadsLower, carried}

-- a net without where it lies in memory
pub record Netlist : Type 0 where
  pub name : List ℕ
  pub inputs : List (List ℕ)
  pub outputs : List NetOut
  pub paused : ℕ
  pub latches : List Latch
  pub gates : List Gate

-- the number of the first gate: the inputs and the latches stand before it
abbrev pub first_gate : Netlist → ℕ
first_gate net = length net.inputs + length net.latches

abbrev pub net_count : Netlist → ℕ
net_count net = first_gate net + length net.gates

-- the wire that a gate carries, by the place of the gate
abbrev pub wire_at : List Gate → ℕ → Option WireId
wire_at gates k = option_and_then (λ g. g.wire) (slice_get gates k)

abbrev pub output_names : Netlist → List (List ℕ)
output_names net = map (λ o. o.name) net.outputs

-- What every net keeps. An output may have the name of an input: it is then a signal that is both given
-- and answered.
pub record IsNet (net : Netlist) : Type 0 where
  -- each name is a letter followed by letters, digits and `_`
  pub name_fits : IsTrue (is_name net.name)
  pub input_names_fit : All (λ n. IsTrue (is_name n)) net.inputs
  pub output_names_fit : All (λ o. IsTrue (is_name o.name)) net.outputs
  -- no two inputs have one name, and no two outputs
  pub inputs_differ : IsTrue (all_differ is_same_name net.inputs)
  pub outputs_differ : IsTrue (all_differ is_same_name (output_names net))
  -- each number is that of a net, and a gate reads nets of lower numbers alone
  pub numbered : net_count net ≤ 2 ^ 32
  pub outputs_in_range : All (λ o. o.net.0 < net_count net) net.outputs
  pub paused_in_range : net.paused < net_count net
  pub latches_in_range : All (λ l. l.from.0 < net_count net) net.latches
  pub reads_lower : ReadsLower (first_gate net) net.gates
  -- no two gates carry the same wire
  pub carries_once : IsTrue (all_differ nat_eq (carried net.gates))
