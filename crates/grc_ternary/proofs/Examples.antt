-- Small programs whose signals depend on one another in a circle: of two, one has a value for each wire and one leaves
-- wires unknown. Each is solved in rounds: at first nothing is known, and in each round each wire gets the status of its
-- formula under the statuses of the round before.
use Rattle.std.proofs.Common.{◌≡◌, ℕ, zero, suc, Bool, true, List, [], ◌∷◌, refl, if◌then◌else◌}
use Rattle.std.specs.Prelude.{map}
use Rattle.est_kernel.specs.Plain.{Program}
use Rattle.est_kernel.specs.Statuses.{Status, Plus, Minus, Unknown}
use Rattle.est_kernel.specs.Terms.{Sig, Not, Or, Term, Nothing, Emit, Present, Par}
use Rattle.grc_graph.specs.Equations.{Equation}
use Rattle.grc_graph.specs.GraphRuns.{graph_of}
use Rattle.grc_graph.specs.Walk.{State, Initial}
use Rattle.grc_graph.specs.Wires.{same_wire, listed, codes_below}
use Rattle.grc_ternary.specs.LeastSolutions.{Statuses, formula_status}

-- a program with so many inputs and outputs
abbrev pub program : ℕ → ℕ → Term → Program
program inputs outputs body = record {
  name = [];
  signals = [];
  inputs = inputs;
  both = 0;
  outputs = outputs;
  relations = [];
  body = body;
}

-- these wires have these statuses, what else there is is false
abbrev pub statuses_of : List Equation → List Status → Statuses
statuses_of [] values = λ w. Minus
statuses_of (e ∷ es) [] = λ w. Minus
statuses_of (e ∷ es) (v ∷ vs) = λ w. if same_wire w e.wire then v else statuses_of es vs w

-- the statuses of the wires of a program, in order, that a round in a state and an event makes of these
abbrev pub round : Program → State → List Bool → List Status → List Status
round p q event values =
    map (λ e. formula_status (graph_of p) q event (statuses_of (graph_of p).equations values) e.formula)
    (graph_of p).equations

-- the statuses after so many rounds
abbrev pub rounds : Program → State → List Bool → ℕ → List Status
rounds p q event zero = map (λ e. Unknown) (graph_of p).equations
rounds p q event (suc n) = round p q event (rounds p q event n)

-- Input A; output X, Y: present A then present X then emit Y end else present Y then emit X end end.
-- Each of X and Y may depend on the other, and in no event both do.
abbrev pub one_way : Program
one_way =
    program 1 2 (Present (Sig 0) (Present (Sig 1) (Emit 2) Nothing) (Present (Sig 2) (Emit 1) Nothing))

-- X, Y; then by preorder each statement's go and end 0
abbrev pub one_way_statuses : List Status
one_way_statuses =
    Minus ∷ Minus ∷ Plus ∷ Plus ∷ Plus ∷ Plus ∷ Minus ∷ Minus ∷ Plus ∷ Plus ∷ Minus ∷ Minus ∷ Minus ∷ Minus ∷ Minus ∷ Minus ∷ []

one_way_is_solved : rounds one_way Initial (true ∷ []) 12 ≡ one_way_statuses
unfolding listed codes_below
one_way_is_solved = refl

one_way_stays : round one_way Initial (true ∷ []) one_way_statuses ≡ one_way_statuses
unfolding listed codes_below
one_way_stays = refl

-- Output X, Y: present X then emit Y end || present Y then emit X end. Nothing says whether X and Y are present.
abbrev pub both_ways : Program
both_ways =
    program 0 2 (Par (Present (Sig 0) (Emit 1) Nothing) (Present (Sig 1) (Emit 0) Nothing))

abbrev pub both_ways_statuses : List Status
both_ways_statuses =
    Unknown ∷ Unknown ∷ Plus ∷ Unknown ∷ Plus ∷ Unknown ∷ Unknown ∷ Unknown ∷ Unknown ∷ Unknown ∷ Plus ∷ Unknown ∷ Unknown ∷ Unknown ∷
    Unknown ∷ Unknown ∷ []

both_ways_are_solved : rounds both_ways Initial [] 12 ≡ both_ways_statuses
unfolding listed codes_below
both_ways_are_solved = refl

both_ways_stay : round both_ways Initial [] both_ways_statuses ≡ both_ways_statuses
unfolding listed codes_below
both_ways_stay = refl

-- Output X: present X or not X then emit X end. The test is true by the laws of Boolean algebra, and not by Kleene's
-- tables.
abbrev pub excluded_middle : Program
excluded_middle = program 0 1 (Present (Or (Sig 0) (Not (Sig 0))) (Emit 0) Nothing)

excluded_middle_statuses : rounds excluded_middle Initial [] 12 ≡ Unknown ∷ Plus ∷ Unknown ∷ Unknown ∷ Unknown ∷ Unknown ∷ Unknown ∷ []
unfolding listed codes_below
excluded_middle_statuses = refl
