-- To believe: what it means that a program is not constructive, and what is found of a program.
use Rattle.std.specs.Prelude.{◌≡◌, ◌+◌, Bool, List, [], ◌∷◌, ◌++◌, length, map, ⊤}
use Rattle.est_kernel.specs.Plain.{Program}
use Rattle.grc_graph.specs.PlainWireNames.{wire_name_of}
use Rattle.grc_graph.specs.WireNames.{wire_name}
use Rattle.grc_graph.specs.Wires.{Wire}
use Rattle.grc_ternary.specs.TriRuns.{StopsAt}
use Rattle.net_ir.specs.Runs.{netlist_of}
use Rattle.net_never.specs.Reached.{items_of}
use Rattle.cec_compile.specs.Meaning.{AreItems}
use Rattle.cec_compile.specs.NetMeaning.{NetKeeps}
use Rattle.cec_prove_sources.specs.Verdicts.{IsTraceOf}
use Rattle.cec_prove_sources.specs.declared.questions.Layout.TheVariants.{LinePerInstant}
use Rattle.cec_cycles.specs.declared.findings.Constructiveness.{Constructiveness}
use Rattle.cec_cycles.specs.declared.findings.Constructiveness.TheVariants.{Constructive, NotConstructive}
use Rattle.cec_cycles.specs.declared.findings.Constructiveness.TheVariants.{Undecided, TooManyNets}
use Rattle.cec_cycles.specs.declared.findings.Stuck.{Stuck}

-- The events of a trace meet the program's relations. The program reacts to each of them except to the last one, and
-- not to that: there the wires with these names are unknown in the least solution of its graph, and no others.
pub record IsStuck (p : Program) (stuck : Stuck) : Type 0 where
  pub events : List (List Bool)
  pub event : List Bool
  pub items_fit : AreItems p (items_of (events ++ event ∷ []))
  pub unknown : List Wire
  pub stops : StopsAt p (items_of events) event unknown
  pub named : map wire_name_of stuck.wires.items ≡ map (wire_name p) unknown
  pub number : stuck.instant ≡ length events + 1
  pub is_trace : IsTraceOf LinePerInstant p (events ++ event ∷ []) stuck.trace.items

-- The netlist of a constructive program keeps what it means.
abbrev pub IsFinding : Program → Constructiveness → Type 0
IsFinding p (Constructive net) = NetKeeps (netlist_of net) p
IsFinding p (NotConstructive stuck) = IsStuck p stuck
IsFinding p Undecided = ⊤
IsFinding p TooManyNets = ⊤
