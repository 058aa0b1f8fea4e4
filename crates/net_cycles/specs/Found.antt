-- Inner: what a schedule of a graph's system finds.
use Rattle.std.specs.Prelude.{◌≡◌, ℕ, ◌<◌, ◌≤◌, Bool, true, List, [], ◌∷◌, ◌++◌, length, All}
use Rattle.base_types.specs.declared.indices.NetId.{NetId}
use Rattle.grc_graph.specs.declared.graph.Graph.{Graph}
use Rattle.grc_graph.specs.PlainGraphs.{names_of, plain_graph, wire_at}
use Rattle.grc_graph.specs.Walk.{State}
use Rattle.grc_evaluate.specs.Evaluations as evaluations
use Rattle.grc_solutions.specs.GraphWires.{Differ}
use Rattle.grc_ternary.specs.LeastSolutions.{IsKnown, IsLeast, Statuses, true_wires}
use Rattle.grc_formulas.specs.Occasions.{state_of}
use Rattle.grc_formulas.specs.WordLaws.{AreWordsOf}
use Rattle.grc_formulas.specs.declared.table.Words.{Words}
use Rattle.net_cycles.specs.Bases.{IsReady, sources_of}
use Rattle.net_cycles.specs.declared.base.Base.{Base}
use Rattle.grc_ternary_gates.specs.declared.gates.System.{System}
use Rattle.grc_ternary_run.specs.Instants.{AreSources, Instant, status_named}
use Rattle.grc_ternary_run.specs.Systems.{IsSystemOf}
use Rattle.net_unroll.specs.declared.growing.Growing.{Growing}
use Rattle.net_unroll.specs.Copies.{values_at}
use Rattle.net_unroll.specs.Laws.{IsSchedule}
use Rattle.net_unroll.specs.Schedules.{all_false, is_known, nothing_known, statuses_along, truths_along}

-- the statuses of wires at the end of a schedule
abbrev pub wires_along : Graph → System → List Bool → List ℕ → Statuses
wires_along g y sources schedule =
    status_named (names_of g) (statuses_along y.gates.items sources nothing_known schedule)

-- They are the least solution of the graph, each is known, and the truth values along the schedule are theirs.
pub record FindsLeast (g : Graph) (y : System) (q : State) (event sources : List Bool) (schedule : List ℕ) : Type 0
  where
    pub least : IsLeast (plain_graph g) q event (wires_along g y sources schedule)
    pub known : IsKnown (wires_along g y sources schedule)
    pub truths : (v : ℕ) → v < length g.wires.items
        → true_wires (wires_along g y sources schedule) (wire_at (names_of g) v)
        ≡ truths_along y.gates.items sources all_false schedule v

-- So it is where the schedule leaves no node of the graph's system unknown.
abbrev pub SchedulesFindLeast : Type 0
SchedulesFindLeast =
    (g : Graph) (w : Words) (y : System) (t : Instant g) (q : State) (sources : List Bool) (schedule : List ℕ)
    → AreWordsOf g w → Differ (names_of g) → All (λ f. evaluations.IsKnown ⊥ f) g.equations.items
    → (is : IsSystemOf g w y) → AreSources g is.counts q t sources → IsSchedule y.gates.items schedule
    → ((n : ℕ) → n < length y.gates.items
    → is_known (statuses_along y.gates.items sources nothing_known schedule n) ≡ true)
    → FindsLeast g y q t.event sources schedule

-- The nets of a system's sources have the values of the instant, once the early rows are made.
abbrev pub SourceNetsAreSources : Type 0
SourceNetsAreSources =
    (g : Graph) (w : Words) (y : System) (is : IsSystemOf g w y) (b : Base) (rows : List NetId) (d : Growing)
    (t : Instant g) → IsReady g w b [] rows d → w.early ≤ length rows
    → AreSources g is.counts (state_of (plain_graph g).leaves t.boot t.bits) t
    (values_at d (sources_of b w rows) (t.event ++ (t.boot ∷ t.bits)))
