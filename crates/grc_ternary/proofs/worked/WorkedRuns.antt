-- Worked runs, by hand: which statuses solve a small graph and are least, where a run leads, and what it means that a program stops.
use Rattle.std.proofs.Common.{◌≡◌, ◌<◌, ◌+◌, ◌++◌, ℕ, Bool, true, false, List, [], ◌∷◌, filter, length, None, Some, refl, lit<}
use Rattle.base_types.specs.Items.{Item, Event, Reset}
use Rattle.est_kernel.specs.Laws.{IsBelow}
use Rattle.est_kernel.specs.Plain.{Program}
use Rattle.est_kernel.specs.Reactions.{run_of}
use Rattle.est_kernel.specs.Statuses.{Plus, Minus, Unknown, known}
use Rattle.est_kernel.specs.Terms.{Nothing}
use Rattle.grc_graph.specs.Formulas.{Boot}
use Rattle.grc_graph.specs.GraphRuns.{PlainGraph, graph_of, next_state, program_wires}
use Rattle.grc_graph.specs.Walk.{State, Initial}
use Rattle.grc_graph.specs.Wires.{Wire, Out, listed, codes_below}
use Rattle.grc_ternary.specs.LeastSolutions.{Statuses, TriSolves, IsLeast, IsKnown, true_wires}
use Rattle.grc_ternary.specs.TriRuns.{tri_machine, state_behind, is_unknown, StopsAt}
use Rattle.base_machines.specs.Machines.{Machine, IsRun, computed}

-- the graph of a program that does nothing
abbrev idle : PlainGraph
idle = graph_of (record { name = []; signals = []; inputs = 0; both = 0; outputs = 0; relations = []; body = Nothing })

true_is_not_false : Plus ≡ Minus → ⊥
true_is_not_false e = cc

false_is_not_true : Minus ≡ Plus → ⊥
false_is_not_true e = cc

it_begins : TriSolves idle Initial [] (λ w. Minus) → ⊥
unfolding listed codes_below
it_begins h = false_is_not_true (h.met 0 (record { wire = Out 0; formula = Boot }) (lit< tt))

others_are_false : TriSolves idle Initial [] (λ w. Plus) → ⊥
unfolding listed codes_below
others_are_false h = true_is_not_false (h.others (Out 9) refl)

what_is_least : (g : PlainGraph) (q : State) (event : List Bool) (T U : Statuses) → IsLeast g q event T → TriSolves g q event U → (w : Wire)
    → TriSolves g q event T × IsBelow (T w) (U w)
what_is_least g q event T U h other w = (h.solves, h.least U other w)

all_known : IsKnown (λ w. Plus)
all_known w = (true, refl)

not_known : IsKnown (λ w. Unknown) → ⊥
not_known h = differ (h (Out 0)).0 (h (Out 0)).1
  where
    differ : (b : Bool) → Unknown ≡ known b → ⊥
    differ true e = cc
    differ false e = cc

-- ---- runs

of_an_instant : (g : PlainGraph) (event : List Bool) (T : Statuses) → IsRun (tri_machine g) (Event event ∷ []) (T ∷ []) → IsLeast g Initial event T × IsKnown T
of_an_instant g event T h = h.0

behind_an_instant : (g : PlainGraph) (q : State) (event : List Bool) (T : Statuses) → (tri_machine g).next q event T ≡ next_state g q event (true_wires T)
behind_an_instant g q event T = refl

-- a machine that counts its events
abbrev counting : Machine ℕ
counting = computed 0 (λ n inputs. n) (λ n inputs x. n + 1)

where_runs_lead : state_behind counting 5 [] [] ∷ state_behind counting 5 (Event [] ∷ Event [] ∷ []) (5 ∷ 6 ∷ [])
    ∷ state_behind counting 5 (Event [] ∷ Reset ∷ Event [] ∷ []) (5 ∷ 0 ∷ []) ∷ state_behind counting 5 (Event [] ∷ []) [] ∷ [] ≡ 5 ∷ 7 ∷ 1 ∷ 5 ∷ []
where_runs_lead = refl

-- ---- where a program stops

before_it_stops : (p : Program) (items : List Item) (event : List Bool) (unknown : List Wire) (h : StopsAt p items event unknown)
    → (run_of p items ≡ Some h.answers) × (run_of p (items ++ Event event ∷ []) ≡ None) × IsRun (tri_machine (graph_of p)) items h.instants
before_it_stops p items event unknown h = (h.constructive, h.stops, h.run)

what_is_left_unknown : (p : Program) (items : List Item) (event : List Bool) (unknown : List Wire) (h : StopsAt p items event unknown)
    → IsLeast (graph_of p) (state_behind (tri_machine (graph_of p)) Initial items h.instants) event h.statuses
    × (unknown ≡ filter (λ w. is_unknown (h.statuses w)) (program_wires p)) × (0 < length unknown)
what_is_left_unknown p items event unknown h = (h.least, h.left, h.some)
