-- Inner: what a runner keeps from instant to instant.
use Rattle.std.specs.Prelude.{◌≡◌, false, length, All, IsTrue}
use Rattle.est_kernel.specs.StaticCodes.{NoInstantLoop}
use Rattle.est_kernel.specs.WellFormed.{IsWellFormed}
use Rattle.est_kernel.specs.WellFormed as programs
use Rattle.grc_graph.specs.BuiltGraphs.{IsGraphOf}
use Rattle.grc_graph.specs.declared.graph.Graph.{Graph}
use Rattle.grc_graph.specs.PlainGraphs.{names_of}
use Rattle.grc_graph.specs.Selected.{IsState}
use Rattle.grc_evaluate.specs.Evaluations.{IsKnown}
use Rattle.grc_solutions_laws.specs.GraphWalks.{SelectsLeaves}
use Rattle.grc_solutions.specs.GraphWires.{Differ}
use Rattle.grc_formulas.specs.WordLaws.{AreWordsOf}
use Rattle.grc_formulas.specs.declared.table.Words.{Words}
use Rattle.grc_ternary_gates.specs.declared.gates.System.{System}
use Rattle.grc_ternary_run.specs.declared.state.State.{State}
use Rattle.grc_ternary_run.specs.Rooms.{HasRoom}
use Rattle.grc_ternary_run.specs.Runners.{Runner, program_in, state_in}
use Rattle.grc_ternary_run.specs.Systems.{IsSystemOf}

-- the table of words and the system are the graph's
pub record ReadsGraph (g : Graph) (w : Words) (y : System) : Type 0 where
  pub words : AreWordsOf g w
  pub differ : Differ (names_of g)
  pub plain : All (λ f. IsKnown ⊥ f) g.equations.items
  pub system : IsSystemOf g w y

-- each leaf, output and wire has its place; no leaf is selected in the first instant
pub record KeepsState (g : Graph) (w : Words) (y : System) (s : State) : Type 0 where
  pub selected : length s.selected.items ≡ length g.next.items
  pub first : IsTrue s.boot → All (λ b. b ≡ false) s.selected.items
  pub outputs : length s.outputs.items ≡ length w.outputs.items
  pub unknown : length s.unknown.items ≡ length g.wires.items
  pub room : HasRoom g w y s.room

abbrev pub runner_with : Graph → State → Runner
runner_with g s = record {
  graph = g;
  boot = s.boot;
  selected = s.selected.items;
  outputs = s.outputs.items;
  unknown = s.unknown.items;
}

-- the graph is that of a program, and the next instant begins in a state of its body
pub record KeepsProgram (r : Runner) : Type 0 where
  pub formed : IsWellFormed (program_in r)
  pub kernel : programs.IsKernel (program_in r).body
  pub no_loop : NoInstantLoop (program_in r).body
  pub graph : IsGraphOf r.graph (program_in r)
  pub state : IsState (state_in r) (program_in r).body
  pub leaves : SelectsLeaves (state_in r) (program_in r).body
