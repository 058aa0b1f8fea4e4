-- Inner: the values of an instant.
use Rattle.std.specs.Prelude.{◌≡◌, ℕ, Bool, true, false, List, [], ◌∷◌, ◌++◌, length, map, take}
use Rattle.grc_graph.specs.declared.graph.Graph.{Graph}
use Rattle.grc_graph.specs.PlainGraphs.{names_of, plain_graph}
use Rattle.grc_evaluate.specs.declared.rows.Start.{Start}
use Rattle.grc_evaluate.specs.Evaluations.{start_state, surroundings_of}
use Rattle.grc_ternary.specs.LeastSolutions.{IsLeast}
use Rattle.grc_formulas.specs.Rows.{source_value}
use Rattle.grc_formulas.specs.declared.table.Words.{Words}
use Rattle.grc_ternary_gates.specs.declared.gates.System.{System}
use Rattle.grc_ternary_gates.specs.declared.gates.Value.{Value}
use Rattle.grc_ternary_gates.specs.declared.gates.Value.TheVariants as values
use Rattle.grc_ternary_gates.specs.Solving.{Fits}
use Rattle.grc_ternary_gates.specs.Systems.{is_unknown, statuses_of}
use Rattle.grc_ternary_run.specs.declared.room.Room.{Room}
use Rattle.grc_ternary_run.specs.Instants.{status_named}

abbrev pub is_true : Value → Bool
is_true values.Unknown = false
is_true values.False = false
is_true values.True = true

-- for each of so many wires whether it is true, and whether it is unknown
abbrev pub are_true : ℕ → List Value → List Bool
are_true n vs = map is_true (take n vs)

abbrev pub are_unknown : ℕ → List Value → List Bool
are_unknown n vs = map is_unknown (take n vs)

-- there is room for all values of an instant
pub record HasRoom (g : Graph) (w : Words) (s : System) (r : Room) : Type 0 where
  pub solver : Fits (length s.gates.items) r.solver
  pub sources : length r.sources.items ≡ s.sources
  pub rows : length r.rows.items ≡ length w.rows.items
  pub wires : length r.wires.items ≡ length g.wires.items
  pub next : length r.next.items ≡ length g.next.items

-- the values of the sources: the constants, whether this is the first instant, the event, and which statements hold a
-- selected pause
abbrev pub sources_in : Words → Start → List Bool → List Bool
sources_in w s rows =
    false ∷ (true ∷ (s.boot ∷ (s.inputs.now ++ map (source_value (surroundings_of s []) rows) w.selected.items)))

-- the values of the nodes are the least solution of the graph
abbrev pub Settled : Graph → Start → Room → Type 0
Settled g s r =
    IsLeast (plain_graph g) (start_state g s) s.inputs.now
    (status_named (names_of g) (statuses_of r.solver.values.items))
