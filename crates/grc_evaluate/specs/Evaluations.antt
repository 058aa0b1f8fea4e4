-- Inner: an evaluation of a graph under way: what it reads, and what its rows are.
use Rattle.std.specs.Prelude.{◌≡◌, ℕ, ◌≤◌, Bool, false, List, [], length, take, slice_index_or, All, IsTrue, ⊤}
use Rattle.est_kernel.specs.Plain.{program_of, given_count}
use Rattle.grc_graph.specs.declared.formulas.Formula as formulas
use Rattle.grc_graph.specs.declared.formulas.Formula.TheVariants as variants
use Rattle.grc_graph.specs.declared.graph.Graph.{Graph}
use Rattle.grc_graph.specs.Formulas.{Formula}
use Rattle.grc_graph.specs.GraphRuns.{formula_value}
use Rattle.grc_graph.specs.PlainGraphs.{names_of, plain_graph}
use Rattle.grc_graph.specs.Walk.{State}
use Rattle.grc_solutions.specs.Evaluations.{valuation_of}
use Rattle.grc_solutions.specs.GraphWires.{Differ}
use Rattle.grc_formulas.specs.declared.table.Words.{Words}
use Rattle.grc_formulas.specs.Occasions.{state_of}
use Rattle.grc_formulas.specs.Rows.{Bounds, Surroundings, row_values}
use Rattle.grc_formulas.specs.WordLaws.{AreWordsOf}
use Rattle.grc_evaluate.specs.declared.rows.Start.{Start}

-- the value at a place; after the last one it is false
abbrev pub value_at : List Bool → ℕ → Bool
value_at values k = slice_index_or values k false

-- what sources read, where the wires have these values
abbrev pub surroundings_of : Start → List Bool → Surroundings
surroundings_of s wires = record { leaves = s.selected.now; event = s.inputs.now; wires = value_at wires }

abbrev pub bounds_of : Start → List Bool → ℕ → Bounds
bounds_of s wires n = record {
  leaves = length s.selected.now;
  given = length s.inputs.now;
  wires = length wires;
  rows = n;
}

-- the state in which the instant begins
abbrev pub start_state : Graph → Start → State
start_state g s = state_of (plain_graph g).leaves s.boot s.selected.now

-- the value of a formula, where the wires have these values
abbrev pub formula_under : Graph → Start → List Bool → Formula → Bool
formula_under g s wires a =
    formula_value (plain_graph g) (start_state g s) s.inputs.now (valuation_of (names_of g) wires) a

-- An instant of a graph whose wires have these values, and the values of the rows at the front of the table, among
-- which are all that read no wire.
pub record Stage (g : Graph) (w : Words) (s : Start) (wires rows : List Bool) : Type 0 where
  pub words : AreWordsOf g w
  pub differ : Differ (names_of g)
  pub leaves : length s.selected.now ≡ length g.next.items
  pub given : length s.inputs.now ≡ given_count (program_of g.program)
  pub first : IsTrue s.boot → All (λ b. b ≡ false) s.selected.now
  pub each_wire : length wires ≡ length g.wires.items
  pub early : w.early ≤ length rows
  pub known : rows ≡ row_values (surroundings_of s wires) [] (take (length rows) w.rows.items)

-- what an instant begins with fits the graph
pub record Begins (g : Graph) (w : Words) (s : Start) : Type 0 where
  pub words : AreWordsOf g w
  pub differ : Differ (names_of g)
  pub leaves : length s.selected.now ≡ length g.next.items
  pub given : length s.inputs.now ≡ given_count (program_of g.program)
  pub first : IsTrue s.boot → All (λ b. b ≡ false) s.selected.now

-- the rows that read no wire are made
pub record Early (g : Graph) (w : Words) (s : Start) (wires rows : List Bool) : Type 0 where
  pub stage : Stage g w s wires rows
  pub early : length rows ≡ w.early

-- all rows are made
pub record Late (g : Graph) (w : Words) (s : Start) (wires rows : List Bool) : Type 0 where
  pub stage : Stage g w s wires rows
  pub all : length rows ≡ length w.rows.items

-- a formula has the words of the next state only where this holds
abbrev pub IsKnown : Type 0 → formulas.Formula → Type 0
IsKnown A (variants.Const b) = ⊤
IsKnown A variants.Boot = ⊤
IsKnown A (variants.Input s) = ⊤
IsKnown A (variants.Wire v) = ⊤
IsKnown A (variants.Selected p) = ⊤
IsKnown A (variants.Upto i k) = ⊤
IsKnown A (variants.Kept i) = A
IsKnown A (variants.Held i) = A
IsKnown A (variants.Not' _ a) = IsKnown A a
IsKnown A (variants.And' _ a _ b) = IsKnown A a × IsKnown A b
IsKnown A (variants.Or' _ a _ b) = IsKnown A a × IsKnown A b
IsKnown A (variants.AnyOf v) = ⊤
