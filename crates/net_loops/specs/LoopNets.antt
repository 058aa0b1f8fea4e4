-- Inner: a netlist of a graph whose equations may have a cycle, and the netlist that checks it.
use Rattle.std.specs.Prelude.{◌≡◌, ℕ, ◌<◌, ◌≤◌, Bool, false, List, [], ◌∷◌, ◌++◌, length, All}
use Rattle.est_kernel.specs.Plain.{Program, interface_count, program_of}
use Rattle.est_kernel.specs.StaticCodes.{NoInstantLoop}
use Rattle.est_kernel.specs.WellFormed.{IsWellFormed}
use Rattle.est_kernel.specs.WellFormed as programs
use Rattle.grc_graph.specs.BuiltGraphs.{IsGraphOf}
use Rattle.grc_graph.specs.declared.graph.Graph.{Graph}
use Rattle.grc_graph.specs.PlainGraphs.{plain_graph}
use Rattle.grc_ternary.specs.LeastSolutions.{IsKnown, IsLeast, Statuses, true_wires}
use Rattle.grc_ternary_gates.specs.declared.gates.System.{System}
use Rattle.grc_ternary_run.specs.Instants.{Instant}
use Rattle.grc_formulas.specs.Occasions.{state_of}
use Rattle.grc_formulas.specs.declared.table.Words.{Words}
use Rattle.net_gen.specs.Generated.{HasInterfaceOf, ReactsAs}
use Rattle.net_ir.specs.declared.netlist.Gate.{Gate}
use Rattle.net_ir.specs.Netlists.{Netlist, net_count}
use Rattle.net_ir.specs.Runs.{net_values, shown}
use Rattle.net_cycles.specs.Drawings.{occasion_of}
use Rattle.net_cycles.specs.Packings.{AreCycleNets}
use Rattle.net_loops.specs.CheckedNets.{IsCheckedNet}

-- The check of a netlist has its inputs and latches, its gates and further ones, and one output.
pub record IsCheckOf (check net : Netlist) : Type 0 where
  pub inputs : check.inputs ≡ net.inputs
  pub latches : check.latches ≡ net.latches
  pub one : length check.outputs ≡ 1
  pub more : (extra : List Gate) × (check.gates ≡ net.gates ++ extra)
  pub low : All (λ l. l.from.0 < net_count net) net.latches

-- the check raises no alarm in an instant
abbrev pub IsQuiet : Netlist → (latches inputs : List Bool) → Type 0
IsQuiet check latches inputs = (shown check (net_values check latches inputs)).outputs ≡ false ∷ []

-- In the least solution of the instant each wire is known, and the netlist does what that says.
pub record ReactsByLeast (g : Graph) (net : Netlist) (t : Instant g) : Type 0 where
  pub statuses : Statuses
  pub least : IsLeast (plain_graph g) (state_of (plain_graph g).leaves t.boot t.bits) t.event statuses
  pub known : IsKnown statuses
  pub reacts : ReactsAs g net (occasion_of g t (true_wires statuses)) (net_values net (t.boot ∷ t.bits) t.event)

-- A netlist of a graph, with its check: so it reacts in each instant, reached or not, in which the check is quiet.
pub record IsLoopNet (g : Graph) (net check : Netlist) : Type 0 where
  pub interface : HasInterfaceOf g net
  pub along : IsCheckOf check net
  pub reacts : (t : Instant g) → IsQuiet check (t.boot ∷ t.bits) t.event → ReactsByLeast g net t

-- A netlist around a drawn circuit, with a check around its alarm, is one of the graph.
abbrev pub CycleNetsAreLoopNets : Type 0
CycleNetsAreLoopNets =
    (g : Graph) (w : Words) (y : System) (schedule : List ℕ) (net check : Netlist)
    → interface_count (program_of g.program) ≤ length (program_of g.program).signals
    → AreCycleNets g w y schedule net check → IsLoopNet g net check

-- A netlist of a program's graph, with its check, is one of the program. Cycles of the graph are no matter.
abbrev pub LoopNetsAreChecked : Type 0
LoopNetsAreChecked =
    (g : Graph) (p : Program) (net check : Netlist) → IsWellFormed p → programs.IsKernel p.body
    → NoInstantLoop p.body → IsGraphOf g p → IsLoopNet g net check → IsCheckedNet p net check
