-- To believe: what it means that a text names the wires of a program's compiled graph, and stores so many values.
use Rattle.std.specs.Prelude.{◌≡◌, ℕ, Bool, List, [], ◌++◌, length, Ok, codes, decimal, ◌+◌, ◌<◌, slice_index_or}
use Rattle.std.specs.List.{AllZip, list_any}
use Rattle.base_types.specs.Items.{Item}
use Rattle.est_kernel.specs.Plain.{Program}
use Rattle.grc_graph.specs.Readings.{Valuation}
use Rattle.grc_graph.specs.SelectionTrees.{body_leaves}
use Rattle.grc_graph.specs.Walk.{State, Initial, Selecting}
use Rattle.grc_graph.specs.Wires.{Wire}
use Rattle.grc_solutions_laws.specs.GraphWalks.{IsWalkOf, graph_walk}
use Rattle.base_machines.specs.Machines.{Machine, IsRun}
use Rattle.blif_text.specs.Circuits.{Circuit, reading}
use Rattle.blif_text.specs.Runs.{circuit_machine}
use Rattle.csub_text.specs.Machine.{program_machine}
use Rattle.csub_text.specs.Texts.{Describes}
use Rattle.csub_text.specs.Trees.{Program as CProgram}
use Rattle.vlog_text.specs.Machine.{vlog_machine}
use Rattle.vlog_text.specs.Texts as modules
use Rattle.vlog_text.specs.Trees.{VerilogModule}
use Rattle.cec_compile.specs.Meaning.{AreItems}
use Rattle.cec_compile.specs.WireGroups.{SharesWires, wire_groups}

-- the name of the wire with this number in a BLIF text
abbrev pub wire_word : ℕ → List ℕ
wire_word n = codes "_w" ++ decimal n

-- its variable in a C text, and its name in a Verilog text
abbrev pub wire_variable : ℕ → List ℕ
wire_variable n = codes "w" ++ decimal n

-- in an instant the name of each wire of the compiled graph is true where one of the wires is that it stands for
abbrev pub TellsWires : (ℕ → List ℕ) → List (List Wire) → (List ℕ → Bool) → Valuation → Type 0
TellsWires name groups v V =
    (n : ℕ) → n < length groups → v (name n) ≡ list_any V (slice_index_or groups n [])

-- The walk of a program from instant to instant, as a machine: in an instant the wires of the program's graph have the
-- values of the walk of the state under coherent statuses, and the pauses that this walk keeps are the next state.
abbrev pub walk_machine : Program → Machine Valuation
walk_machine p = record {
  State = State;
  start = Initial;
  instant = IsWalkOf p;
  next = λ q event V. Selecting (graph_walk p q event V).kept;
}

-- The program is walked over the items, from instant to instant, and in each the names tell the wires.
pub record WiresTold (name : ℕ → List ℕ) (groups : List (List Wire)) (p : Program) (items : List Item)
    (valuations : List (List ℕ → Bool)) : Type 0 where
  pub run : List Valuation
  pub is_run : IsRun (walk_machine p) items run
  pub told : AllZip (TellsWires name groups) valuations run

-- Along each run of a machine the names tell the wires of the program's compiled graph, which are shared exactly where
-- the edges between shared wires have no cycle.
pub record NamesWires (M : Machine (List ℕ → Bool)) (name : ℕ → List ℕ) (p : Program) : Type 0 where
  pub shared : Bool
  pub shares : SharesWires p shared
  pub wires : (items : List Item) → AreItems p items → (valuations : List (List ℕ → Bool)) → IsRun M items valuations
      → WiresTold name (wire_groups shared p) p items valuations

-- as many values as the selection tree has leaves, and one more, for the first instant
abbrev pub one_per_leaf : Program → ℕ
one_per_leaf p = length (body_leaves p.body) + 1

-- of a BLIF text, which has so many latches
pub record TextNames (latches : ℕ) (text : List ℕ) (p : Program) : Type 0 where
  pub circuit : Circuit
  pub reads : reading text ≡ Ok circuit
  pub stored : length circuit.latches ≡ latches
  pub wires : NamesWires (circuit_machine circuit) wire_word p

-- of a C text, which has so many states
pub record CTextNames (states : ℕ) (text : List ℕ) (p : Program) : Type 0 where
  pub program : CProgram
  pub describes : Describes text program
  pub stored : length program.states ≡ states
  pub wires : NamesWires (program_machine program) wire_variable p

-- of a Verilog text, which has so many registers
pub record VerilogTextNames (registers : ℕ) (text : List ℕ) (p : Program) : Type 0 where
  pub design : VerilogModule
  pub describes : modules.Describes text design
  pub stored : length design.registers ≡ registers
  pub wires : NamesWires (vlog_machine design) wire_variable p
