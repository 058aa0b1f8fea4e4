-- Inner: the circuit of a graph whose equations may have a cycle, along a schedule of its system.
use Rattle.std.specs.Prelude.{◌≡◌, ℕ, ◌<◌, Bool, true, List, ◌∷◌, ◌++◌, length, map, slice_index_or, All}
use Rattle.std.specs.Prelude.{IsTrue}
use Rattle.base_types.specs.declared.indices.NetId.{NetId}
use Rattle.grc_graph.specs.declared.formulas.Formula.{Formula}
use Rattle.grc_graph.specs.declared.graph.Graph.{Graph}
use Rattle.grc_graph.specs.GraphRuns.{shown}
use Rattle.grc_graph.specs.PlainGraphs.{names_of, plain_graph}
use Rattle.grc_graph.specs.Readings.{Valuation}
use Rattle.grc_evaluate.specs.Evaluations as evaluations
use Rattle.grc_solutions.specs.GraphWires.{Differ}
use Rattle.grc_ternary.specs.LeastSolutions.{IsKnown, IsLeast, Statuses, true_wires}
use Rattle.grc_formulas.specs.Occasions.{Occasion, state_of}
use Rattle.grc_formulas.specs.Rows.{source_fits}
use Rattle.grc_formulas.specs.WordLaws.{AreWordsOf, late_bounds}
use Rattle.grc_formulas.specs.declared.table.Source.{Source}
use Rattle.grc_formulas.specs.declared.table.Words.{Words}
use Rattle.net_ir.specs.Gates.{value_in}
use Rattle.net_cycles.specs.declared.base.Base.{Base}
use Rattle.net_cycles.specs.Bases.{IsBase, bounds_of, form_value, source_net}
use Rattle.grc_ternary_gates.specs.declared.gates.System.{System}
use Rattle.grc_ternary_run.specs.Instants.{Instant}
use Rattle.grc_ternary_run.specs.Systems.{IsSystemOf}
use Rattle.net_unroll.specs.declared.growing.Growing.{Growing}
use Rattle.net_unroll.specs.Copies.{AreNets, CanUnroll, net_at, next_number, values_at, values_of}
use Rattle.net_unroll.specs.Laws.{IsSchedule}
use Rattle.net_unroll.specs.Schedules.{is_known, nothing_known, statuses_along}
use Rattle.net_cycles.specs.declared.drawing.Drawn.{Drawn}

-- what a circuit is drawn of
pub record CanDraw (g : Graph) (w : Words) (y : System) (schedule : List ℕ) : Type 0 where
  pub words : AreWordsOf g w
  pub differ : Differ (names_of g)
  pub plain : All (λ f. evaluations.IsKnown ⊥ f) g.equations.items
  pub system : IsSystemOf g w y
  pub schedule_fits : IsSchedule y.gates.items schedule

-- the values of inputs and latches in an instant
abbrev pub front_of : (g : Graph) → Instant g → List Bool
front_of g t = t.event ++ (t.boot ∷ t.bits)

abbrev pub occasion_of : (g : Graph) → Instant g → Valuation → Occasion g
occasion_of g t V = record {
  boot = t.boot;
  bits = t.bits;
  event = t.event;
  valuation = V;
  one_per_leaf = t.one_per_leaf;
  one_per_given = t.one_per_given;
  unselected = t.unselected;
}

-- The least solution of the instant knows each wire, and the nets say what it shows and the next state.
pub record SaysLeast (g : Graph) (w : Words) (b : Base) (gates : Growing) (copies rows next : List NetId)
    (t : Instant g) : Type 0 where
  pub statuses : Statuses
  pub least : IsLeast (plain_graph g) (state_of (plain_graph g).leaves t.boot t.bits) t.event statuses
  pub known : IsKnown statuses
  pub outputs : map (λ s. value_in (values_of gates (front_of g t)) (source_net b copies rows s).0) w.outputs.items
      ≡ (shown (plain_graph g) (true_wires statuses)).outputs
  pub paused : value_in (values_of gates (front_of g t)) (source_net b copies rows w.paused).0
      ≡ (shown (plain_graph g) (true_wires statuses)).paused
  pub next_is : (k : ℕ) (f : Formula) → k < length g.next.items
      → value_in (values_of gates (front_of g t)) (net_at next k).0
      ≡ form_value g (occasion_of g t (true_wires statuses)) (slice_index_or g.next.items k f)

-- no node of the system is unknown at the end of the schedule
abbrev pub IsWhollyKnown : (g : Graph) → System → Growing → List NetId → List ℕ → Instant g → Type 0
IsWhollyKnown g y gates sources schedule t = (n : ℕ) → n < length y.gates.items
    → is_known (statuses_along y.gates.items (values_at gates sources (front_of g t)) nothing_known schedule n) ≡ true

-- A circuit is drawn of a graph: it says this in each instant in which the schedule leaves nothing unknown.
pub record IsDrawn (g : Graph) (w : Words) (y : System) (schedule : List ℕ) (d : Drawn) : Type 0 where
  pub base : IsBase g d.base d.gates
  pub many : length d.next.items ≡ length g.next.items
  pub low : AreNets d.gates d.next.items
  pub fits : (s : Source) → IsTrue (source_fits (late_bounds g (length w.rows.items)) s)
      → IsTrue (source_fits (bounds_of d.base (length d.copies.items) (length d.rows.items)) s)
  pub reads : (s : Source) → IsTrue (source_fits (late_bounds g (length w.rows.items)) s)
      → (source_net d.base d.copies.items d.rows.items s).0 < next_number d.gates
  pub can : CanUnroll d.gates y.gates.items d.sources.items d.base.no schedule
  pub says : (t : Instant g) → IsWhollyKnown g y d.gates d.sources.items schedule t
      → SaysLeast g w d.base d.gates d.copies.items d.rows.items d.next.items t
