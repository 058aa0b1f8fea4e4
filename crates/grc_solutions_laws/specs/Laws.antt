-- Contract: the laws that tie the equations of a graph to the walk of its program.
use Rattle.std.specs.Prelude.{◌≡◌, ◌↔◌, ℕ, Bool, true, ◌==◌, List, length, All, Contains}
use Rattle.base_types.specs.Items.{Item}
use Rattle.est_kernel.specs.Plain.{Program, given_count}
use Rattle.est_kernel.specs.StaticCodes.{has_code, resumed_codes, NoInstantLoop}
use Rattle.grc_graph.specs.Layers.{Started}
use Rattle.grc_graph.specs.Wires.{Wire}
use Rattle.grc_graph.specs.Residuals.{holds}
use Rattle.grc_graph.specs.Walk.{State, Initial, Selecting, is_initial, body_walk, Values}
use Rattle.grc_graph.specs.Selected.{HasExitCodes, IsState}
use Rattle.grc_graph.specs.Readings.{Valuation}
use Rattle.grc_graph.specs.Coherence.{StartedWalked, ResumedWalked}
use Rattle.grc_graph.specs.GraphRuns.{graph_of, program_wires, SolvesGraph, shown, next_state, IsGraphRun}
use Rattle.grc_solutions_laws.specs.Heads.{RegionRests}
use Rattle.grc_graph.specs.Layers.{Layer}
use Rattle.grc_solutions_laws.specs.GraphWalks.{selected_of, program_values, graph_walk, IsWalkOf, SelectsLeaves}
use Rattle.grc_solutions_laws.specs.GraphWalks.{shown_code}

-- Where no loop is instantaneous, a solution of a program's graph in a state is its walk: each wire of each instance
-- has the value that the walk gives it, in the layer of the first start and, where it is live, in the resumed one.
abbrev pub SolutionsAreWalks : Type 0
SolutionsAreWalks =
    (p : Program) (q : State) (event : List Bool) (V : Valuation)
    → HasExitCodes p.body → NoInstantLoop p.body → IsState q p.body → SolvesGraph (graph_of p) q event V
    → StartedWalked V p.body 0 (Started 0) (program_values p event V) (is_initial q)
    × (has_code (resumed_codes p.body) ≡ true
    → ResumedWalked V (selected_of q) p.body 0 (program_values p event V) (holds (selected_of q) p.body 0))

-- More than that, the valuations that solve the graph are just those of the walk, so that to solve the equations is to
-- walk the state under coherent statuses. This asks for no rank.
abbrev pub EquationsAreTheWalk : Type 0
EquationsAreTheWalk =
    (p : Program) (q : State) (event : List Bool) (V : Valuation)
    → HasExitCodes p.body → NoInstantLoop p.body → IsState q p.body → length event ≡ given_count p
    → SolvesGraph (graph_of p) q event V ↔ IsWalkOf p q event V

-- the pauses that a walk of a state keeps are a state again
abbrev pub WalksKeepStates : Type 0
WalksKeepStates =
    (p : Program) (q : State) (Z : ℕ → Layer → Bool) (v : Values)
    → HasExitCodes p.body → NoInstantLoop p.body → IsState q p.body
    → IsState (Selecting (body_walk Z q p.body v).kept) p.body

-- The next formulas of a solution select just the pauses that the walk keeps, and they are a state again, of leaves.
-- The graph shows that the program pauses where the walk's code is 1.
abbrev pub NextStateIsKept : Type 0
NextStateIsKept =
    (p : Program) (q : State) (event : List Bool) (V : Valuation)
    → HasExitCodes p.body → NoInstantLoop p.body → IsState q p.body → SelectsLeaves q p.body →
    SolvesGraph (graph_of p) q event V
    → ((m : ℕ) → selected_of (next_state (graph_of p) q event V) m ≡ (graph_walk p q event V).kept m)
    × IsState (next_state (graph_of p) q event V) p.body
    × SelectsLeaves (next_state (graph_of p) q event V) p.body
    × ((shown (graph_of p) V).paused ≡ ((graph_walk p q event V).code == 1))

-- The code of the walk is the one that a solution shows.
abbrev pub CodesAreShown : Type 0
CodesAreShown =
    (p : Program) (q : State) (event : List Bool) (V : Valuation)
    → HasExitCodes p.body → NoInstantLoop p.body → IsState q p.body → SolvesGraph (graph_of p) q event V
    → shown_code V ≡ (graph_walk p q event V).code

-- In a solution each region whose head does not run is at rest. This asks for no rank.
abbrev pub RegionsRest : Type 0
RegionsRest =
    (p : Program) (q : State) (event : List Bool) (V : Valuation)
    → HasExitCodes p.body → NoInstantLoop p.body → IsState q p.body → SolvesGraph (graph_of p) q event V
    → (w : Wire) → Contains (program_wires p) w → RegionRests p.body V w

-- So it is in each instant of a run from the first one on.
abbrev pub RegionsRestInRuns : Type 0
RegionsRestInRuns =
    (p : Program) (items : List Item) (Vs : List Valuation)
    → HasExitCodes p.body → NoInstantLoop p.body → IsGraphRun (graph_of p) Initial items Vs
    → All (λ V. (w : Wire) → Contains (program_wires p) w → RegionRests p.body V w) Vs
