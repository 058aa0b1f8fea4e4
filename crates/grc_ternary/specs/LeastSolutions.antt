-- To believe: the least three-valued solution of a graph's equations.
--
-- A graph whose equations depend on one another in a circle still says what a program does, where its values can be
-- found step by step from nothing known: it is then constructive (Berry, "The Constructive Semantics of Pure Esterel";
-- Malik, "Analysis of Cyclic Combinational Circuits"). Each wire is true, false or not known. The formulas are read by
-- Kleene's tables, as they stand: no law of Boolean algebra is used before, since `x or not x` is not true where x is
-- not known.
use Rattle.std.specs.Prelude.{◌≡◌, ℕ, zero, suc, Bool, true, false, List, All}
use Rattle.std.specs.List.{list_any}
use Rattle.est_kernel.specs.Laws.{IsBelow}
use Rattle.est_kernel.specs.Reactions.{is_given}
use Rattle.est_kernel.specs.Statuses.{Status, Plus, Minus, Unknown, known, opposite, conjunction, disjunction}
use Rattle.est_kernel.specs.Terms.{Term}
use Rattle.grc_graph.specs.Formulas.{Formula, Interpretation, meaning}
use Rattle.grc_graph.specs.GraphRuns.{PlainGraph}
use Rattle.grc_graph.specs.Readings.{Valuation, state_holds_at}
use Rattle.grc_graph.specs.Walk.{State, Values, is_initial}
use Rattle.grc_graph.specs.Wires.{Wire, End, same_wire}

-- A status for each wire name: true (Plus), false (Minus) or not known; what is no wire of the graph is false.
abbrev pub Statuses : Type 0
Statuses = Wire → Status

-- the or of the statuses at the numbers up to k
abbrev pub upto_status : (ℕ → Status) → ℕ → Status
upto_status U zero = U 0
upto_status U (suc k) = disjunction (upto_status U k) (U (suc k))

-- The words of formulas over a body, in a state and an event, with these statuses of the wires. What the state and the
-- event say is known. No equation of a wire speaks of what a state keeps or holds: nothing is said of it here.
abbrev pub kleene_interpretation : Term → State → Values → Statuses → Interpretation Status
kleene_interpretation body q given T = record {
  constant = known;
  negation = opposite;
  conjunction = conjunction;
  disjunction = disjunction;
  boot = known (is_initial q);
  input = λ s. known (given s);
  wire = T;
  selected = λ n. known (state_holds_at q body n);
  upto = λ n l k. upto_status (λ j. T (End n l j)) k;
  kept = λ n l. Unknown;
  held = λ n l. Unknown;
}

-- the status of a formula of the graph in a state and an event, under statuses of the wires
abbrev pub formula_status : PlainGraph → State → List Bool → Statuses → Formula → Status
formula_status g q event T a = meaning (kleene_interpretation g.body q (is_given event) T) a

-- Statuses solve the graph: each equation is met, and what is no wire is false.
pub record TriSolves (g : PlainGraph) (q : State) (event : List Bool) (T : Statuses) : Type 0 where
  pub met : All (λ e. T e.wire ≡ formula_status g q event T e.formula) g.equations
  pub others : (w : Wire) → list_any (λ e. same_wire w e.wire) g.equations ≡ false → T w ≡ Minus

-- The least solution knows of each wire what all solutions know of it, and no more.
pub record IsLeast (g : PlainGraph) (q : State) (event : List Bool) (T : Statuses) : Type 0 where
  pub solves : TriSolves g q event T
  pub least : (U : Statuses) → TriSolves g q event U → (w : Wire) → IsBelow (T w) (U w)

-- nothing is unknown
abbrev pub IsKnown : Statuses → Type 0
IsKnown T = (w : Wire) → (b : Bool) × (T w ≡ known b)

-- whether a status is true
abbrev pub is_plus : Status → Bool
is_plus Plus = true
is_plus Minus = false
is_plus Unknown = false

-- the valuation in which a wire is true where its status is
abbrev pub true_wires : Statuses → Valuation
true_wires T = λ w. is_plus (T w)
