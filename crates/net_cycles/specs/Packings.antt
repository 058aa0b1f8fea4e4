-- Inner: the netlist around a drawn circuit, and the one around its alarm.
use Rattle.std.specs.Prelude.{◌≡◌, ℕ, ◌+◌, ◌<◌, ◌≤◌, ◌^◌, true, List, [], ◌∷◌, length, map, codes}
use Rattle.base_types.specs.declared.indices.NetId.{NetId}
use Rattle.est_kernel.specs.Plain.{given_names, outgoing_names, program_of}
use Rattle.est_kernel.specs.Statuses.{Status}
use Rattle.grc_graph.specs.declared.graph.Graph.{Graph}
use Rattle.grc_formulas.specs.declared.table.Words.{Words}
use Rattle.net_gen.specs.Assembled.{boot_latch, leaf_latch}
use Rattle.net_ir.specs.declared.netlist.Gate.{Gate}
use Rattle.net_ir.specs.declared.netlist.NetOut.{NetOut}
use Rattle.net_ir.specs.Gates.{ReadsLower, carried}
use Rattle.net_ir.specs.Netlists.{Netlist, first_gate, output_names}
use Rattle.grc_ternary_gates.specs.declared.gates.System.{System}
use Rattle.net_unroll.specs.declared.growing.Growing.{Growing}
use Rattle.net_unroll.specs.Rails.{IsAlarm}
use Rattle.net_unroll.specs.Schedules.{are_known, is_known}
use Rattle.net_cycles.specs.declared.drawing.Drawn.{Drawn}
use Rattle.net_cycles.specs.Bases.{source_net}
use Rattle.net_cycles.specs.Drawings.{IsDrawn}

-- the parts of a netlist are those of a drawn circuit
pub record IsAroundDrawn (g : Graph) (w : Words) (d : Drawn) (net : Netlist) : Type 0 where
  pub name : net.name ≡ (program_of g.program).name
  pub inputs : net.inputs ≡ given_names (program_of g.program)
  pub outputs : output_names net ≡ outgoing_names (program_of g.program)
  pub output_nets : map (λ o. o.net) net.outputs
      ≡ map (source_net d.base d.copies.items d.rows.items) w.outputs.items
  pub paused : net.paused ≡ (source_net d.base d.copies.items d.rows.items w.paused).0
  pub latches : net.latches ≡ boot_latch d.base.no ∷ map leaf_latch d.next.items
  pub gates : net.gates ≡ d.gates.list.items

-- the check of such a netlist
pub record IsCheckAround (net check : Netlist) (after : Growing) (alarm : NetId) : Type 0 where
  pub inputs : check.inputs ≡ net.inputs
  pub latches : check.latches ≡ net.latches
  pub gates : check.gates ≡ after.list.items
  pub alarm_out : map (λ o. o.net) check.outputs ≡ alarm ∷ []

-- where all watched nodes are known, all nodes are
abbrev pub WatchesAll : ℕ → List ℕ → Type 0
WatchesAll nodes watched = (V : ℕ → Status) → are_known V watched ≡ true → (n : ℕ) → n < nodes → is_known (V n) ≡ true

-- the alarm as the one output
abbrev pub alarm_outputs : NetId → List NetOut
alarm_outputs alarm = record { name = codes "alarm"; net = alarm } ∷ []

-- A netlist can get these gates in place of its own, and this net as its one output.
pub record CanCheck (net : Netlist) (gates : List Gate) (alarm : ℕ) : Type 0 where
  pub many : first_gate net + length gates ≤ 2 ^ 32
  pub more : length net.gates ≤ length gates
  pub low : alarm < first_gate net + length gates
  pub reads : ReadsLower (first_gate net) gates
  pub silent : carried gates ≡ []

-- The netlist with these gates and this alarm.
pub record IsCheckMade (net check : Netlist) (gates : List Gate) (alarm : NetId) : Type 0 where
  pub name : check.name ≡ net.name
  pub inputs : check.inputs ≡ net.inputs
  pub outputs : check.outputs ≡ alarm_outputs alarm
  pub paused : check.paused ≡ alarm.0
  pub latches : check.latches ≡ net.latches
  pub gates_are : check.gates ≡ gates

-- A netlist is the check of one around a drawn circuit.
pub record IsChecked (y : System) (schedule : List ℕ) (d : Drawn) (net check : Netlist) : Type 0 where
  pub after : Growing
  pub watched : List ℕ
  pub alarm : NetId
  pub is_alarm : IsAlarm d.gates after y.gates.items d.sources.items schedule watched alarm.0
  pub watches : WatchesAll (length y.gates.items) watched
  pub check_around : IsCheckAround net check after alarm

-- A netlist of a graph along a schedule, and its check: they are around one drawn circuit.
pub record AreCycleNets (g : Graph) (w : Words) (y : System) (schedule : List ℕ) (net check : Netlist) : Type 0 where
  pub drawn : Drawn
  pub is_drawn : IsDrawn g w y schedule drawn
  pub net_around : IsAroundDrawn g w drawn net
  pub checked : IsChecked y schedule drawn net check
