-- Inner: the nets of the names of a circuit, as its tables are drawn one after another, and the netlist of them.
use Rattle.std.specs.Prelude.{◌≡◌, ℕ, ◌+◌, ◌<◌, Bool, false, List, [], ◌∷◌, ◌++◌, length, map, replicate}
use Rattle.std.specs.Prelude.{slice_index_or, slice_set, max, All, IsTrue}
use Rattle.std.specs.List.{list_any}
use Rattle.base_types.specs.declared.indices.NetId.{NetId}
use Rattle.base_types.specs.Names.{is_name}
use Rattle.net_ir.specs.declared.netlist.Gate.{Gate}
use Rattle.net_ir.specs.declared.netlist.Latch.{Latch}
use Rattle.net_ir.specs.Gates.{gate_values}
use Rattle.net_ir.specs.Netlists.{Netlist}
use Rattle.blif_text.specs.declared.circuit.Cell.{Cell}
use Rattle.blif_text.specs.Circuits.{Circuit, CircuitLatch, Table}
use Rattle.blif_text.specs.OutputNames.{output_word, paused_word}
use Rattle.blif_text.specs.Runs.{row_fits, driven_names}
use Rattle.blif_run.specs.CircuitAnswers.{listed_names}
use Rattle.blif_run.specs.Truths.{no_table}
use Rattle.run_steps.specs.Slots.{slot_in, value_at}
use Rattle.run_steps.specs.Steps.{Step, settled}
use Rattle.blif_net.specs.declared.assembling.Named.{Named}
use Rattle.blif_net.specs.Depths.{gate_depths, greatest, table_depth}
use Rattle.blif_net.specs.Drawings.{IsDrawing, read_depths, read_values}

-- the step of a table whose output and inputs have these slots
abbrev pub rows_step : ℕ → List ℕ → List (List Cell) → Step
rows_step output reads rows = record {
  output = output;
  value = λ values. list_any (λ row. row_fits row (map (value_at values) reads)) rows;
}

-- the step of the table with this number, where the slots of the tables' outputs begin at `first`
abbrev pub drawn_step : List Table → ℕ → List (List ℕ) → ℕ → Step
drawn_step tables first reads k =
    rows_step (first + k) (slice_index_or reads k []) (slice_index_or tables k no_table).rows

-- The nets of slots have the values that the steps give them, one after another, where the inputs and the latches stand
-- first and all others begin with 0.
pub record Settles (first count : ℕ) (gates : List Gate) (nets : List NetId) (steps : List Step) : Type 0 where
  pub drawing : IsDrawing first gates
  pub each_slot : length nets ≡ first + count
  pub low : All (λ n. n.0 < first + length gates) nets
  pub says : (given : List Bool) → length given ≡ first
      → read_values nets (gate_values given gates) ≡ settled steps (given ++ replicate count false)

-- one step more
pub record AddsStep (first : ℕ) (gates : List Gate) (nets : List NetId) (more : List Gate) (new : List NetId)
    (step : Step) : Type 0 where
  pub settles : (count : ℕ) (steps : List Step) → Settles first count gates nets steps
      → Settles first count more new (steps ++ step ∷ [])

-- the net of a name, where these are the nets of the slots
abbrev pub net_named : List (List ℕ) → List NetId → List ℕ → NetId
net_named names nets word = slice_index_or nets (slot_in names word) (record { 0 = 0 })

abbrev pub latch_named : List (List ℕ) → List NetId → CircuitLatch → Latch
latch_named names nets latch = record { init = latch.init; from = net_named names nets latch.source }

-- the names of a circuit are those of a netlist, and have these nets
pub record IsNamed (c : Circuit) (nets : List NetId) (named : Named) : Type 0 where
  pub name : named.names.name ≡ c.name
  pub inputs : named.names.inputs.items ≡ c.inputs
  pub fit : All (λ o. IsTrue (is_name o.name)) named.outputs.items
  pub words : map (λ o. output_word c.inputs o.name) named.outputs.items ≡ listed_names c.outputs
  pub nets_are : map (λ o. o.net) named.outputs.items ≡ map (net_named (driven_names c) nets) (listed_names c.outputs)
  pub paused : named.paused ≡ net_named (driven_names c) nets paused_word
  pub latches : named.latches.items ≡ map (latch_named (driven_names c) nets) c.latches

-- the netlist of names and gates
abbrev pub net_with : Named → List Gate → Netlist
net_with named gates = record {
  name = named.names.name;
  inputs = named.names.inputs.items;
  outputs = named.outputs.items;
  paused = named.paused.0;
  latches = named.latches.items;
  gates = gates;
}

-- the netlist of a circuit whose names have these nets
pub record IsAssembled (c : Circuit) (gates : List Gate) (nets : List NetId) (net : Netlist) : Type 0 where
  pub named : Named
  pub are_named : IsNamed c nets named
  pub net_is : net ≡ net_with named gates

-- ---- depths

-- the depths of the nets of slots, where those before the first gate are given
abbrev pub slot_depths : List NetId → List Gate → List ℕ → List ℕ
slot_depths nets gates given = read_depths nets (gate_depths given gates)

-- the depth of a table whose inputs have these slots, by the depths of all slots
abbrev pub slots_depth : List ℕ → List (List Cell) → List ℕ → ℕ
slots_depth reads rows depths = table_depth rows (map (λ s. slice_index_or depths s 0) reads)

-- The net of a slot has this depth, by the depths of the slots so far, and no gate more is deeper.
pub record AddsDepth (first : ℕ) (gates : List Gate) (nets : List NetId) (more : List Gate) (new : List NetId)
    (slot : ℕ) (depth : List ℕ → ℕ) : Type 0 where
  pub deep : (given : List ℕ) → length given ≡ first
      → slot_depths new more given
      ≡ slice_set (slot_depths nets gates given) slot (depth (slot_depths nets gates given))
  pub top : (given : List ℕ) → length given ≡ first
      → greatest (gate_depths given more)
      ≡ max (greatest (gate_depths given gates)) (depth (slot_depths nets gates given))

-- before the first table no net of a slot is deep
pub record BeginsFlat (first count : ℕ) (gates : List Gate) (nets : List NetId) : Type 0 where
  pub each : length nets ≡ first + count
  pub flat : (s : ℕ) → slice_index_or (slot_depths nets gates (replicate first 0)) s 0 ≡ 0
  pub top : greatest (gate_depths (replicate first 0) gates) ≡ 0
