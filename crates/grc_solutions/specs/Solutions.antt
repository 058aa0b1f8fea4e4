-- Contract: when the equations of a graph have one solution in each instant, and the graph one run.
use Rattle.std.specs.Prelude.{◌≡◌, ℕ, ◌<◌, Bool, List, All, Contains}
use Rattle.base_types.specs.Items.{Item}
use Rattle.est_kernel.specs.Plain.{Program}
use Rattle.grc_graph.specs.Wires.{Wire}
use Rattle.grc_graph.specs.Equations.{Equation}
use Rattle.grc_graph.specs.Orders.{GoUp}
use Rattle.grc_graph.specs.Reads.{ReadsOnly}
use Rattle.grc_graph.specs.Selected.{HasExitCodes}
use Rattle.grc_graph.specs.Walk.{State}
use Rattle.grc_graph.specs.Readings.{Valuation}
use Rattle.grc_graph.specs.GraphRuns.{PlainGraph, SolvesGraph, IsGraphRun, graph_of}
use Rattle.grc_solutions.specs.GraphWires.{equation_wires, Differ, program_edges}

-- Of the wires that an equation reads, each that has an equation has a lower rank than the equation's own wire.
abbrev pub ReadUp : (Wire → ℕ) → List Equation → Type 0
ReadUp rank es =
    All (λ e. ReadsOnly (λ u. Contains (equation_wires es) u → rank u < rank e.wire) e.formula) es

-- In each state and event the equations have a solution, and any two solutions agree in every wire.
abbrev pub HasOneSolution : PlainGraph → Type 0
HasOneSolution g =
    (q : State) (event : List Bool)
    → ((V : Valuation) × SolvesGraph g q event V)
    × ((V W : Valuation) → SolvesGraph g q event V → SolvesGraph g q event W → (w : Wire) → V w ≡ W w)

-- From each state there is a run over each list of items, and any two such runs are the same.
abbrev pub HasOneRun : PlainGraph → Type 0
HasOneRun g =
    (q : State) (items : List Item)
    → ((Vs : List Valuation) × IsGraphRun g q items Vs)
    × ((Vs Ws : List Valuation) → IsGraphRun g q items Vs → IsGraphRun g q items Ws → Vs ≡ Ws)

-- Where no two equations are of one wire, and they read up in some rank, they have one solution.
abbrev pub OneSolution : Type 0
OneSolution =
    (g : PlainGraph) (rank : Wire → ℕ) → Differ (equation_wires g.equations) → ReadUp rank g.equations
    → HasOneSolution g

-- A graph whose equations have one solution has one run.
abbrev pub OneRun : Type 0
OneRun = (g : PlainGraph) → HasOneSolution g → HasOneRun g

-- Where each edge of a program's graph goes up in some rank, its equations read up in the rank.
abbrev pub GraphsReadUp : Type 0
GraphsReadUp =
    (p : Program) (rank : Wire → ℕ) → HasExitCodes p.body → GoUp rank (program_edges p) →
    ReadUp rank (graph_of p).equations

-- So they have one solution, and the graph has one run.
abbrev pub GraphsHaveOneSolution : Type 0
GraphsHaveOneSolution =
    (p : Program) (rank : Wire → ℕ) → HasExitCodes p.body → GoUp rank (program_edges p) → HasOneSolution (graph_of p)

abbrev pub GraphRunsExist : Type 0
GraphRunsExist =
    (p : Program) (rank : Wire → ℕ) → HasExitCodes p.body → GoUp rank (program_edges p) → HasOneRun (graph_of p)
